-- The numbers of a register block and of a limit fit 32 bits.
use Rattle.std.proofs.Common.{◌≡◌, ℕ, zero, suc, ◌^◌, ◌<◌, List, [], ◌∷◌, ◌++◌, Option, Some, None, refl, arith}
use Rattle.std.specs.Prelude.{slice_index, unwrap_or}
use Rattle.parcel_model.specs.Parcel.{limit_number}

rest_fits : (cause value : ℕ) (x : List ℕ) → cause < 2 ^ 32 → value < 2 ^ 32 → ((i : ℕ) → slice_index x i < 2 ^ 32) → (k : ℕ) → slice_index (x ++ cause ∷ value ∷ []) k < 2 ^ 32
rest_fits cause value [] c v h zero = c
rest_fits cause value [] c v h (suc zero) = v
rest_fits cause value [] c v h (suc (suc k)) = omega arith
rest_fits cause value (w ∷ x) c v h zero = h 0
rest_fits cause value (w ∷ x) c v h (suc k) = rest_fits cause value x c v (λ i. h (suc i)) k

pub block_fits : (pc cause value : ℕ) (x : List ℕ) → pc < 2 ^ 32 → cause < 2 ^ 32 → value < 2 ^ 32 → ((i : ℕ) → slice_index x i < 2 ^ 32) → (k : ℕ) → slice_index (pc ∷ (x ++ cause ∷ value ∷ [])) k < 2 ^ 32
block_fits pc cause value x p c v h zero = p
block_fits pc cause value x p c v h (suc k) = rest_fits cause value x c v h k

limit_is : (limit : Option ℕ) → unwrap_or limit 0 ≡ limit_number limit
limit_is None = refl
limit_is (Some n) = refl

pub limit_fits : (limit : Option ℕ) (n : ℕ) → n ≡ unwrap_or limit 0 → n < 2 ^ 32 → limit_number limit < 2 ^ 32
limit_fits limit n e lt = omega (arith, e, limit_is limit)
