use Rattle.std.proofs.Common.{arith, refl}
use Rattle.page_tree.specs.declared.tree_ref.TreeRef.{TreeRef}
use Rattle.space_mem.specs.declared.table.PageTable.{PageTable}
use Rattle.space_mem.proofs.Copies.{copied_all, marked_all, copied_memory, copied_outside, copied_marks, ready_all}
use Rattle.space_mem.proofs.Kept.{table_kept}
use Rattle.space_mem.proofs.table.PageTable.copy_all_ready.Goals as goal

pub returns-clause-ok : goal.returns-clause-ok
returns-clause-ok c =
    let source : TreeRef = c.args.source.now.pages in
    let s : TreeRef = c.prepare.new.self in
    let same = ready_all source c.in_ok-copied.copied s c.in_ok-copied.ensures.same c.in_ok-prepare.ensures.same in
    copied_memory 0 0 1048576 source c.args.self.now.pages s (omega arith) (omega arith) (omega arith) (copied_all source c.args.self.now.pages s same)

pub returns-in_err-copied-clause-outside : goal.returns-in_err-copied-clause-outside
returns-in_err-copied-clause-outside c = table_kept c.args.self.now c.args.self.now 0 1048576 refl

pub returns-in_err-prepare-clause-outside : goal.returns-in_err-prepare-clause-outside
returns-in_err-prepare-clause-outside c = table_kept c.args.self.now c.args.self.now 0 1048576 refl

pub returns-clause-outside : goal.returns-clause-outside
returns-clause-outside c =
    let source : TreeRef = c.args.source.now.pages in
    let t : PageTable = c.args.self.now in
    let s : TreeRef = c.prepare.new.self in
    let same = ready_all source c.in_ok-copied.copied s c.in_ok-copied.ensures.same c.in_ok-prepare.ensures.same in
    copied_outside 0 0 1048576 source t (record t { pages = s; dirty = c.all.result }) (copied_all source t.pages s same) (marked_all t.dirty c.all.result c.all.ensures.all)

pub returns-clause-marks : goal.returns-clause-marks
returns-clause-marks c =
    let source : TreeRef = c.args.source.now.pages in
    let t : PageTable = c.args.self.now in
    let s : TreeRef = c.prepare.new.self in
    let same = ready_all source c.in_ok-copied.copied s c.in_ok-copied.ensures.same c.in_ok-prepare.ensures.same in
    copied_marks 0 0 1048576 source t (record t { pages = s; dirty = c.all.result }) (copied_all source t.pages s same) (marked_all t.dirty c.all.result c.all.ensures.all)
