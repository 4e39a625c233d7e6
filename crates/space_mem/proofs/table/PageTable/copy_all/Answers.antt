use Rattle.std.proofs.Common.{arith, refl}
use Rattle.space_mem.proofs.Copies.{copied_all, marked_all, copied_memory, copied_outside, copied_marks}
use Rattle.space_mem.proofs.Kept.{table_kept}
use Rattle.space_mem.proofs.table.PageTable.copy_all.Goals as goal

pub returns-clause-ok : goal.returns-clause-ok
returns-clause-ok c =
    copied_memory 0 0 1048576 c.args.source.now.pages c.args.self.now.pages c.in_ok-copied.copied (omega arith) (omega arith) (omega arith) (copied_all c.args.source.now.pages c.args.self.now.pages c.in_ok-copied.copied c.in_ok-copied.ensures.same)

pub returns-in_err-copied-clause-outside : goal.returns-in_err-copied-clause-outside
returns-in_err-copied-clause-outside c = table_kept c.args.self.now c.args.self.now 0 1048576 refl

pub returns-clause-outside : goal.returns-clause-outside
returns-clause-outside c =
    copied_outside 0 0 1048576 c.args.source.now.pages c.args.self.now (record c.args.self.now { pages = c.in_ok-copied.copied; dirty = c.all.result }) (copied_all c.args.source.now.pages c.args.self.now.pages c.in_ok-copied.copied c.in_ok-copied.ensures.same)
    (marked_all c.args.self.now.dirty c.all.result c.all.ensures.all)

pub returns-clause-marks : goal.returns-clause-marks
returns-clause-marks c =
    copied_marks 0 0 1048576 c.args.source.now.pages c.args.self.now (record c.args.self.now { pages = c.in_ok-copied.copied; dirty = c.all.result }) (copied_all c.args.source.now.pages c.args.self.now.pages c.in_ok-copied.copied c.in_ok-copied.ensures.same)
    (marked_all c.args.self.now.dirty c.all.result c.all.ensures.all)
