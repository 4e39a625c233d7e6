-- A text with a part for each of some things grows by one part.
use Rattle.std.proofs.Common.{◌≡◌, ◌<◌, ◌+◌, ℕ, suc, List, [], ◌∷◌, ◌++◌, length, take, map, get_or, refl, sym, ap, ◌∙◌, subst, append_assoc, arith}
use Rattle.std.proofs.lemmas.List.{append-nil, map_more}
use Rattle.explain_why.specs.Parts.{HasParts, numbers_below}

pub parts_then : {X : Type 0} (part : X → List ℕ → Type 0) (xs : List X) (x : X) (a b : List ℕ) → HasParts part xs a → part x b → HasParts part (xs ++ x ∷ []) (a ++ b)
parts_then part [] x a b is one = (b, [], one, refl, ap (λ t. t ++ b) is ∙ sym (append-nil b))
parts_then part (y ∷ ys) x a b (first, rest, here, others, is) one =
    (first, rest ++ b, here, parts_then part ys x rest b others one, ap (λ t. t ++ b) is ∙ append_assoc first rest b)

-- one more of the numbers
pub next_number : (part : ℕ → List ℕ → Type 0) (n : ℕ) (a b after : List ℕ) → HasParts part (numbers_below n) a → part n b → after ≡ a ++ b → HasParts part (numbers_below (n + 1)) after
unfolding numbers_below
next_number part n a b after is one grown =
    let more : suc n ≡ n + 1 = omega arith in
    subst (λ k. HasParts part (numbers_below k) after) more (subst (HasParts part (numbers_below n ++ n ∷ [])) (sym grown) (parts_then part (numbers_below n) n a b is one))

pub no_numbers : (part : ℕ → List ℕ → Type 0) (text : List ℕ) → text ≡ [] → HasParts part (numbers_below 0) text
unfolding numbers_below
no_numbers part text is = is

-- one more of a list of things, each by what is told of it
pub next_of : {X Y : Type 0} (f : X → Y) (part : Y → List ℕ → Type 0) (xs : List X) (k : ℕ) (x : X) (a b after : List ℕ) → k < length xs → HasParts part (map f (take k xs)) a → part (f (get_or xs k x)) b → after ≡ a ++ b
    → HasParts part (map f (take (k + 1) xs)) after
next_of f part xs k x a b after within is one grown =
    subst (λ ys. HasParts part ys after) (sym (map_more f xs k x within)) (subst (HasParts part (map f (take k xs) ++ f (get_or xs k x) ∷ [])) (sym grown) (parts_then part (map f (take k xs)) (f (get_or xs k x)) a b is one))

-- parts that were appended one after the other
pub three_parts : (s t u a b c : List ℕ) → s ≡ a → t ≡ s ++ b → u ≡ t ++ c → u ≡ a ++ (b ++ c)
three_parts s t u a b c first second third = third ∙ ap (λ v. v ++ c) (second ∙ ap (λ v. v ++ b) first) ∙ append_assoc a b c

pub four_parts : (s t u v a b c d : List ℕ) → s ≡ a → t ≡ s ++ b → u ≡ t ++ c → v ≡ u ++ d → v ≡ a ++ (b ++ (c ++ d))
four_parts s t u v a b c d first second third fourth =
    fourth ∙ ap (λ w. w ++ d) (three_parts s t u a b c first second third) ∙ append_assoc a (b ++ c) d ∙ ap (λ w. a ++ w) (append_assoc b c d)
