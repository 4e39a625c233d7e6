-- A part of a memory without a byte other than 0.
-- Our choice: a restatement for proofs.
use Rattle.std.specs.Prelude.{◌≡◌, ◌<◌, ℕ, ◌+◌}
use Rattle.memory_model.specs.Memory.{Memory, byte_at}

-- so many bytes from an address on are 0
abbrev pub IsEmptyFrom : Memory → ℕ → ℕ → Type 0
IsEmptyFrom m at count = (k : ℕ) → k < count → byte_at m (at + k) ≡ 0
