-- The lines of registers and of children, one after the other.
use Rattle.std.proofs.Common.{◌≡◌, ℕ, suc, ◌+◌, ◌==◌, ◌<◌, ◌≤◌, List, [], ◌∷◌, ◌++◌, length, drop, sym, ap, ap₂, ◌∙◌, append_assoc, drop-cons, add-one}
use Rattle.std.specs.Prelude.{slice_index, if◌then◌else◌}
use Rattle.std.proofs.lemmas.List.{append-nil, drop_all}
use Rattle.std.specs.declared.boxed.Box.{Box}
use Rattle.std.specs.declared.alloc.Global.{Global}
use Rattle.space_model.specs.Space.{Space}
use Rattle.space_tree.specs.Kept.{children_in}
use Rattle.explain_core.specs.Text.{child_text, children_text, register_text, registers_text}
use Rattle.explain_core.specs.Trace.{change_text, changes_text}

-- what stands behind `old` are the lines of all children but those that are left
abbrev pub AreLeft : List ℕ → List ℕ → List (ℕ × Box Space Global) → List (ℕ × Box Space Global) → Type 0
AreLeft old text all left = text ++ children_text (children_in left) ≡ old ++ children_text (children_in all)

pub one_line : (old text after line : List ℕ) (all : List (ℕ × Box Space Global)) (e : ℕ × Box Space Global) (left : List (ℕ × Box Space Global)) → AreLeft old text all (e ∷ left)
    → line ≡ child_text e.0 e.1.value → after ≡ text ++ line → AreLeft old after all left
one_line old text after line all e left so_far is grown =
    ap (λ v. v ++ children_text (children_in left)) (grown ∙ ap (λ l. text ++ l) is) ∙ append_assoc text (child_text e.0 e.1.value) (children_text (children_in left)) ∙ so_far

pub all_lines : (old text : List ℕ) (all : List (ℕ × Box Space Global)) → AreLeft old text all [] → text ≡ old ++ children_text (children_in all)
all_lines old text all so_far = sym (append-nil text) ∙ so_far

-- one more register
pub one_register : (old text line after : List ℕ) (n : ℕ) (x : List ℕ) → n < length x → text ++ registers_text n (drop n x) ≡ old ++ registers_text 0 x → line ≡ register_text n (slice_index x n) → after ≡ text ++ line
    → after ++ registers_text (n + 1) (drop (n + 1) x) ≡ old ++ registers_text 0 x
one_register old text line after n x within so_far is grown =
    let left : registers_text n (drop n x) ≡ register_text n (slice_index x n) ++ registers_text (suc n) (drop (suc n) x) = ap (registers_text n) (drop-cons x n 0 within) in
    let next : registers_text (n + 1) (drop (n + 1) x) ≡ registers_text (suc n) (drop (suc n) x) = ap (λ m. registers_text m (drop m x)) (add-one n) in
    ap₂ (λ v w. v ++ w) (grown ∙ ap (λ l. text ++ l) is) next
    ∙ append_assoc text (register_text n (slice_index x n)) (registers_text (suc n) (drop (suc n) x)) ∙ ap (λ l. text ++ l) (sym left) ∙ so_far

-- none is left
pub all_registers : (old text : List ℕ) (n : ℕ) (x : List ℕ) → length x ≤ n → text ++ registers_text n (drop n x) ≡ old ++ registers_text 0 x → text ≡ old ++ registers_text 0 x
all_registers old text n x past so_far = sym (append-nil text) ∙ ap (λ l. text ++ registers_text n l) (sym (drop_all n x past)) ∙ so_far

-- one more register that may have another value
pub one_change : (text line after whole : List ℕ) (n : ℕ) (x y : List ℕ) → n < length x → n < length y → text ++ changes_text n (drop n x) (drop n y) ≡ whole
    → line ≡ (if slice_index x n == slice_index y n then [] else change_text n (slice_index x n) (slice_index y n)) → after ≡ text ++ line
    → after ++ changes_text (n + 1) (drop (n + 1) x) (drop (n + 1) y) ≡ whole
one_change text line after whole n x y within also so_far is grown =
    let here : List ℕ = if slice_index x n == slice_index y n then [] else change_text n (slice_index x n) (slice_index y n) in
    let left : changes_text n (drop n x) (drop n y) ≡ here ++ changes_text (suc n) (drop (suc n) x) (drop (suc n) y) = ap₂ (changes_text n) (drop-cons x n 0 within) (drop-cons y n 0 also) in
    let next : changes_text (n + 1) (drop (n + 1) x) (drop (n + 1) y) ≡ changes_text (suc n) (drop (suc n) x) (drop (suc n) y) = ap (λ m. changes_text m (drop m x) (drop m y)) (add-one n) in
    ap₂ (λ v w. v ++ w) (grown ∙ ap (λ l. text ++ l) is) next
    ∙ append_assoc text here (changes_text (suc n) (drop (suc n) x) (drop (suc n) y)) ∙ ap (λ l. text ++ l) (sym left) ∙ so_far

pub all_changes : (text whole : List ℕ) (n : ℕ) (x y : List ℕ) → length x ≤ n → text ++ changes_text n (drop n x) (drop n y) ≡ whole → text ≡ whole
all_changes text whole n x y past so_far = sym (append-nil text) ∙ ap (λ l. text ++ changes_text n l (drop n y)) (sym (drop_all n x past)) ∙ so_far
