-- The rights of addresses in a row.
use Rattle.std.specs.Prelude.{◌≡◌, ℕ, ◌+◌, ◌<◌, ◌≤◌, Bool, true, false, Some, None}
use Rattle.std.proofs.Common.{sym, arith}
use Rattle.memory_model.specs.Memory.{first_without}
use Rattle.memory_model.proofs.Runs.{first_without-none, first_without-some}

pub none_lacks : (right : ℕ → Bool) (a n done : ℕ) → n ≤ done → ((k : ℕ) → k < done → right (a + k) ≡ true) → None ≡ first_without right a n
none_lacks right a n done past all = sym (first_without-none right a n (λ k below. all k (omega arith)))

pub first_lacks : (right : ℕ → Bool) (a n done : ℕ) → done < n → ((k : ℕ) → k < done → right (a + k) ≡ true) → right (a + done) ≡ false → Some (a + done) ≡ first_without right a n
first_lacks right a n done within all lacks = sym (first_without-some right a n done within all lacks)
