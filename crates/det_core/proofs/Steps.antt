-- What one step of an iterator says of the list that it still gives.
use Rattle.std.proofs.Common.{◌≡◌, List, [], ◌∷◌, refl, sym, ap}
use Rattle.std.specs.Prelude.{Option, Some, None}
use Rattle.std.proofs.lemmas.Iterator.{YieldsList}

module _ {S A B : Type 0} {steps : S → Option A → S → Type 0} {v : A → B} where
  -- where it gives none, nothing was left
  pub is_over : (left : List B) (s t : S) → YieldsList steps v s left → steps s None t → left ≡ []
  is_over [] s t h none = refl
  is_over (y ∷ ys) s t h none = absurd (h.runs.0 t none)

  -- where it gives an item, that was the first of what was left
  pub is_first : (left : List B) (s t : S) (x : A) → YieldsList steps v s left → steps s (Some x) t → (rest : List B) × (left ≡ v x ∷ rest) × YieldsList steps v t rest
  is_first [] s t x h some = absurd (h.runs x t some)
  is_first (y ∷ ys) s t x h some = (ys, ap (λ z. z ∷ ys) (sym (h.runs.1 x t some).0), record { runs = (h.runs.1 x t some).1 })
