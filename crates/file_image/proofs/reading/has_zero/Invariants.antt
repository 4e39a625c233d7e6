use Rattle.std.proofs.Common.{◌≡◌, drop}
use Rattle.std.specs.Prelude.{◌==◌}
use Rattle.std.specs.List.{list_any}
use Rattle.file_image.proofs.reading.has_zero.Given as goal

abbrev pub invariant-loop-b : goal.invariant-loop-b
invariant-loop-b l = list_any (λ x. x == 0) l.bytes ≡ list_any (λ x. x == 0) (drop l.b-index l.bytes)
