use Rattle.std.proofs.Common.{◌≡◌, ◌+◌, ◌*◌, ◌<◌, ◌≤◌, ℕ, length, get_or}
use Rattle.space_model.specs.Block.{word}
use Rattle.space_tree.proofs.registers.read_registers.Given as goal

-- pc and the registers below this one are read
abbrev pub invariant-loop-number : goal.invariant-loop-number
invariant-loop-number l = record {
  pc : l.registers.pc ≡ word l.memory.memory l.at;
  length : length l.registers.x ≡ 32;
  zero : get_or l.registers.x 0 0 ≡ 0;
  words : (k : ℕ) → 1 ≤ k → k < l.number → get_or l.registers.x k 0 ≡ word l.memory.memory (l.at + 4 * k);
}
