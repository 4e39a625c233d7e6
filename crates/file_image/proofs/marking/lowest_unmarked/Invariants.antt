use Rattle.std.proofs.Common.{◌≡◌, List, Option, drop}
use Rattle.file_model.specs.File.{File}
use Rattle.file_model.specs.Operations.{free_from, lowest_free}
use Rattle.file_image.specs.Marks.{AreInUse}
use Rattle.file_image.proofs.marking.lowest_unmarked.Given as goal

abbrev pub invariant-loop-slot : goal.invariant-loop-slot
invariant-loop-slot g l = (s : List (Option File)) → AreInUse s (g.P.FileBytes.bytes l.parent) l.marks → lowest_free s ≡ free_from l.slot (drop l.slot s)
