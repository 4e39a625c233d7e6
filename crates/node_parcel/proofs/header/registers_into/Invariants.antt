use Rattle.std.proofs.Common.{◌≡◌, ◌+◌, ◌-◌, ◌*◌, length, take}
use Rattle.parcel_model.specs.Reading.{words_at}
use Rattle.node_parcel.specs.Meant.{registers_at}
use Rattle.node_parcel.proofs.Words.{words_after}
use Rattle.node_parcel.proofs.header.registers_into.Given as goal

-- pc and the registers below this one are read
abbrev pub invariant-loop-number : goal.invariant-loop-number
invariant-loop-number l = record {
  read : words_after l.registers.pc (take l.number l.registers.x) (words_at (32 - l.number) (l.at + 4 * l.number) l.rest) ≡ registers_at l.at l.bytes;
  length : length l.registers.x ≡ 32;
}
