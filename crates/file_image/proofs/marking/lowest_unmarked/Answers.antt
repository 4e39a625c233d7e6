use Rattle.std.proofs.Common.{sym, ◌∙◌, arith}
use Rattle.file_image.proofs.Following.{unmarked_next, unmarked_here, unmarked_end}
use Rattle.file_image.proofs.marking.lowest_unmarked.Goals as goal

pub returns-then-is_unmarked-clause-slot : goal.returns-then-is_unmarked-clause-slot
returns-then-is_unmarked-clause-slot g c = λ s h.
    sym (c.loop-slot.invariant s h ∙ unmarked_here s (g.P.FileBytes.bytes c.args.parent.now) c.args.marks.now c.loop-slot.slot h (omega arith) (sym c.is_unmarked.ensures ∙ c.if-is_unmarked.true))

pub loop-slot-preserved : goal.loop-slot-preserved
loop-slot-preserved g c = λ s h.
    c.loop-slot.invariant s h ∙ unmarked_next s (g.P.FileBytes.bytes c.args.parent.now) c.args.marks.now c.loop-slot.slot h (omega arith) (sym c.is_unmarked.ensures ∙ c.if-is_unmarked.false)

pub returns-clause-slot : goal.returns-clause-slot
returns-clause-slot g c = λ s h.
    sym (c.loop-slot.invariant s h ∙ unmarked_end s (g.P.FileBytes.bytes c.args.parent.now) c.args.marks.now c.loop-slot.slot h (omega arith))
