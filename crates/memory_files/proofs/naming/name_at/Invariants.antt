use Rattle.std.proofs.Common.{◌≡◌, ℕ, ◌+◌, ◌<◌, get_or, length}
use Rattle.memory_model.specs.Memory.{byte_at}
use Rattle.memory_files.proofs.naming.name_at.Given as goal

abbrev pub invariant-loop-i : goal.invariant-loop-i
invariant-loop-i l = record { long : length l.name ≡ 32; byte : (k : ℕ) → k < l.i → get_or l.name k 0 ≡ byte_at l.memory.memory (l.at + k) }
