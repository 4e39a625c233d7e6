-- What holds of every number below a bound, by computing it for each.
use Rattle.std.proofs.Common.{◌≡◌, ℕ, zero, suc, ◌<◌, Bool, true, false, arith, inl, inr, refl, subst}
use Rattle.std.specs.Prelude.{◌&&◌}
use Rattle.std.proofs.lemmas.Bool.{cases_lt}

pub both : (x y : Bool) → (x && y) ≡ true → (x ≡ true) × (y ≡ true)
both true y h = (refl, h)
both false y h = cc

abbrev pub all_below : ℕ → (ℕ → Bool) → Bool
all_below zero f = true
all_below (suc m) f = f m && all_below m f

pub each-below : (m : ℕ) (f : ℕ → Bool) → all_below m f ≡ true → (n : ℕ) → n < m → f n ≡ true
each-below zero f h n lt = absurd (omega (arith, lt))
each-below (suc m) f h n lt = elim (cases_lt n m) [
  | inl less ↦ each-below m f (both (f m) (all_below m f) h).1 n less
  | inr le ↦ let same : m ≡ n = omega (arith, lt, le) in subst (λ (k : ℕ). f k ≡ true) same (both (f m) (all_below m f) h).0
]
