-- The front and the rest of a list, where it may be shorter.
use Rattle.std.proofs.Common.{◌≡◌, ℕ, min, List, length, take, drop, sym, ◌∙◌, ap, arith, inl, inr}
use Rattle.std.proofs.Math.ListN.{drop_of_length-le}
use Rattle.std.proofs.lemmas.Bool.{cases_lt}
use Rattle.std.proofs.lemmas.List.{take_min}

rest_from : (l : List ℕ) (i : ℕ) → drop (min (length l) i) l ≡ drop i l
rest_from l i = elim (cases_lt i (length l)) [
  | inl lt ↦ ap (λ (k : ℕ). drop k l) (omega (arith, lt))
  | inr le ↦ drop_of_length-le l (omega (arith, le)) ∙ sym (drop_of_length-le l (omega (arith, le)))
]

front_of : (l : List ℕ) (i : ℕ) → take (min (length l) i) l ≡ take i l
front_of l i = let same : min (length l) i ≡ min i (length l) = omega arith in ap (λ (k : ℕ). take k l) same ∙ take_min i l

-- so many of a rest
pub front_of_rest : (names rest front : List ℕ) (at n i j : ℕ) → i ≡ min (length names) at → rest ≡ drop i names → j ≡ min (length rest) n → front ≡ take j rest → front ≡ take n (drop at names)
front_of_rest names rest front at n i j is_i is_rest is_j is_front =
    let same : rest ≡ drop at names = is_rest ∙ (ap (λ (k : ℕ). drop k names) is_i ∙ rest_from names at) in
    is_front ∙ (ap (λ (k : ℕ). take k rest) is_j ∙ (front_of rest n ∙ ap (take n) same))
