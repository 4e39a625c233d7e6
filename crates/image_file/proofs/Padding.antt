-- Bytes with zeros behind them.
use Rattle.std.proofs.Common.{◌≡◌, ℕ, zero, suc, ◌+◌, ◌≤◌, ◌<◌, ◌++◌, List, length, get_or, refl, sym, ◌∙◌, arith}
use Rattle.std.specs.Prelude.{replicate}
use Rattle.std.proofs.lemmas.List.{append-nil, length-append, length-replicate}
use Rattle.image_file.specs.View.{padded}

-- as one list
pub padded_is : (bytes : List ℕ) (n : ℕ) → padded bytes n ≡ bytes ++ replicate n 0
padded_is bytes zero = sym (append-nil bytes)
padded_is bytes (suc n) = refl

pub length-padded : (bytes : List ℕ) (n : ℕ) → length (padded bytes n) ≡ length bytes + n
length-padded bytes zero = omega arith
length-padded bytes (suc n) = omega (arith, length-append bytes (replicate (suc n) 0), length-replicate {A = ℕ} (suc n) 0)
