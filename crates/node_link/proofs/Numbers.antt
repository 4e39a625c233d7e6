-- The row of numbers that a link goes along.
use Rattle.std.proofs.Common.{◌≡◌, ℕ, zero, suc, ◌+◌, refl, ap, sym, ◌∙◌, arith}
use Rattle.bench_model.specs.Generated.{next, number}

pub number_one : (x : ℕ) → number x 1 ≡ next x
unfolding number
number_one x = refl

later : (x k : ℕ) → number (next x) k ≡ number x (suc k)
unfolding number
later x zero = refl
later x (suc k) = ap next (later x k)

pub number_later : (x k : ℕ) → number (next x) k ≡ number x (1 + k)
number_later x k = let same : 1 + k ≡ suc k = omega arith in later x k ∙ ap (number x) (sym same)
