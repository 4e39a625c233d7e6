use Rattle.std.proofs.Common.{◌≡◌, ◌≤◌, ◌^◌, drop}
use Rattle.std.specs.Prelude.{option_map}
use Rattle.rv_asm.specs.Gives.{clamp}
use Rattle.source_model.specs.Number.{value_from}
use Rattle.rv_asm.proofs.number.value_of_digits.Given as goal

abbrev pub invariant-loop-byte : goal.invariant-loop-byte
invariant-loop-byte l = record {
  so_far : option_map clamp (value_from l.base l.value (drop l.byte-index l.text)) ≡ option_map clamp (value_from l.base 0 l.text);
  small : l.value ≤ 2 ^ 40;
}
