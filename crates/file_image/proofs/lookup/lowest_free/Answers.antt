use Rattle.std.proofs.Common.{sym, ◌∙◌, arith}
use Rattle.file_image.proofs.Looking.{free_next, free_here, free_end}
use Rattle.file_image.proofs.lookup.lowest_free.Goals as goal

pub returns-then-is_free-clause-slot : goal.returns-then-is_free-clause-slot
returns-then-is_free-clause-slot g c =
    sym (c.loop-slot.invariant ∙ free_here (g.B.FileBytes.bytes c.args.bytes.now) c.loop-slot.slot 64 (omega arith) (sym c.if-is_free.ensures))

pub loop-slot-preserved : goal.loop-slot-preserved
loop-slot-preserved g c =
    c.loop-slot.invariant ∙ free_next (g.B.FileBytes.bytes c.args.bytes.now) c.loop-slot.slot 64 (omega arith) (sym c.if-is_free.ensures)

pub returns-clause-slot : goal.returns-clause-slot
returns-clause-slot g c =
    sym (c.loop-slot.invariant ∙ free_end (g.B.FileBytes.bytes c.args.bytes.now) c.loop-slot.slot 64 (omega arith))
