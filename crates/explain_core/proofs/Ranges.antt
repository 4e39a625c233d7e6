-- What is shown of each number from one on, part by part.
use Rattle.std.proofs.Common.{◌≡◌, ℕ, suc, ◌+◌, List, ◌++◌, append_assoc, sym, ap, ◌∙◌}
use Rattle.std.proofs.lemmas.List.{append-nil}
use Rattle.std.specs.List.{flat_map, range_with_len}

-- one more
pub one_number : (f : ℕ → List ℕ) (text after whole : List ℕ) (a next left rest : ℕ) → text ++ flat_map f (range_with_len a left) ≡ whole → left ≡ suc rest → next ≡ a + 1 → after ≡ text ++ f a
    → after ++ flat_map f (range_with_len next rest) ≡ whole
one_number f text after whole a next left rest so_far is up grown =
    ap (λ v. v ++ flat_map f (range_with_len next rest)) grown ∙ append_assoc text (f a) (flat_map f (range_with_len next rest))
    ∙ ap (λ n. text ++ (f a ++ flat_map f (range_with_len n rest))) up ∙ ap (λ n. text ++ flat_map f (range_with_len a n)) (sym is) ∙ so_far

-- none is left
pub all_numbers : (f : ℕ → List ℕ) (text whole : List ℕ) (a left : ℕ) → text ++ flat_map f (range_with_len a left) ≡ whole → left ≡ 0 → text ≡ whole
all_numbers f text whole a left so_far none = sym (append-nil text) ∙ ap (λ n. text ++ flat_map f (range_with_len a n)) (sym none) ∙ so_far
