use Rattle.std.proofs.Common.{◌≡◌, ℕ, ◌+◌, ◌<◌, get_or}
use Rattle.call_model.specs.Block.{word_at}
use Rattle.trap_ret.proofs.block.set_registers.Given as goal

abbrev pub invariant-loop-k : goal.invariant-loop-k
invariant-loop-k l = record {
  registers : (j : ℕ) → j < l.k → word_at l.bytes (j + 1) ≡ get_or l.x j 0;
  others : word_at l.bytes 0 ≡ word_at l.initial.bytes 0;
}
