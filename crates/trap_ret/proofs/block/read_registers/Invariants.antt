use Rattle.std.proofs.Common.{◌≡◌, ℕ, ◌+◌, ◌<◌, get_or, length}
use Rattle.call_model.specs.Block.{word_at}
use Rattle.trap_ret.proofs.block.read_registers.Given as goal

abbrev pub invariant-loop-k : goal.invariant-loop-k
invariant-loop-k l = record {
  long : length l.x ≡ 31;
  registers : (j : ℕ) → j < l.k → get_or l.x j 0 ≡ word_at l.bytes (j + 1);
}
