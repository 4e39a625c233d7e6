use Rattle.file_image.proofs.Planned.{IsPlanned}
use Rattle.file_image.proofs.marking.touched.Given as goal

abbrev pub invariant-loop-slot : goal.invariant-loop-slot
invariant-loop-slot g l = IsPlanned (g.P.FileBytes.bytes l.parent) (g.C.FileBytes.bytes l.child) l.plan.marks l.plan.whole l.plan.from l.slot
