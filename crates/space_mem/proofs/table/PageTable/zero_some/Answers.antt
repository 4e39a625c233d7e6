use Rattle.std.proofs.Common.{◌∙◌, ◌-◌, ap, arith, refl, cond, false, None}
use Rattle.memory_model.specs.Ranges.{with_zeros}
use Rattle.page_marks.specs.Marks.{mark_of}
use Rattle.page_tree.specs.TreeRefs.{root_page, root_own}
use Rattle.page_tree.specs.Blocks.{byte_in}
use Rattle.space_mem.specs.Tables.{held_of}
use Rattle.space_mem.proofs.Tables.{same_held}
use Rattle.space_mem.proofs.Updates.{at_error, row_memory, marked_row, owned_row, out_of_range}
use Rattle.space_mem.proofs.RangeEdits.{cleared_memory, marks_range}
use Rattle.space_mem.proofs.Kept.{table_keeps, table_kept}
use Rattle.space_mem.proofs.Dirty.{marks_same}
use Rattle.space_mem.proofs.table.PageTable.zero_some.Goals as goal

pub returns-in_err-prepare-clause-err : goal.returns-in_err-prepare-clause-err
returns-in_err-prepare-clause-err c = at_error c.from_residual.result _ (same_held _ _ refl refl (marked_row c.args.self.now.dirty c.prepare.new.self c.in_err-prepare.ensures.same))

pub returns-in_err-prepare-clause-marks : goal.returns-in_err-prepare-clause-marks
returns-in_err-prepare-clause-marks c = marks_same (held_of c.args.self.now) _ (same_held _ _ refl refl (marked_row c.args.self.now.dirty c.prepare.new.self c.in_err-prepare.ensures.same))

pub returns-in_err-prepare-2-clause-err : goal.returns-in_err-prepare-2-clause-err
returns-in_err-prepare-2-clause-err c = let h = c.in_err-prepare-2.ensures in
    at_error c.from_residual-in_err-prepare-2.result _ (same_held _ _ (row_memory c.args.self.now.pages c.prepare-2.new.self h.same) (owned_row c.args.self.now.pages c.prepare-2.new.self h.own) (marked_row c.args.self.now.dirty c.prepare.new.self c.in_ok-prepare.ensures.same))

pub returns-in_err-prepare-2-clause-marks : goal.returns-in_err-prepare-2-clause-marks
returns-in_err-prepare-2-clause-marks c = let h = c.in_err-prepare-2.ensures in
    marks_same (held_of c.args.self.now) _ (same_held _ _ (row_memory c.args.self.now.pages c.prepare-2.new.self h.same) (owned_row c.args.self.now.pages c.prepare-2.new.self h.own) (marked_row c.args.self.now.dirty c.prepare.new.self c.in_ok-prepare.ensures.same))

pub returns-clause-ok : goal.returns-clause-ok
returns-clause-ok c =
    cleared_memory c.prepare-2.new.self c.clear.new.self c.args.first c.args.end (omega arith) c.requires.within c.clear.ensures.cleared
    ∙ ap (λ m. with_zeros m c.args.first (c.args.end - c.args.first)) (row_memory c.args.self.now.pages c.prepare-2.new.self c.in_ok-prepare-2.ensures.same)

pub returns-clause-outside : goal.returns-clause-outside
returns-clause-outside c = table_keeps c.args.self.now (record { pages = c.clear.new.self; dirty = c.mark.new.self; alloc = c.args.self.now.alloc }) c.args.first c.args.end
    (λ p below out. c.clear.ensures.cleared.own p below ∙ ap (λ b. cond b false (root_own c.prepare-2.new.self p)) (out_of_range c.args.first c.args.end p out) ∙ c.in_ok-prepare-2.ensures.own p below)
    (λ p below out. c.mark.ensures.marked p below ∙ ap (λ b. cond b 1 (mark_of c.prepare.new.self p)) (out_of_range c.args.first c.args.end p out) ∙ c.in_ok-prepare.ensures.same p below)

pub returns-in_err-prepare-clause-outside : goal.returns-in_err-prepare-clause-outside
returns-in_err-prepare-clause-outside c = table_kept c.args.self.now (record c.args.self.now { dirty = c.prepare.new.self }) c.args.first c.args.end (same_held _ _ refl refl (marked_row c.args.self.now.dirty c.prepare.new.self c.in_err-prepare.ensures.same))

pub returns-in_err-prepare-2-clause-outside : goal.returns-in_err-prepare-2-clause-outside
returns-in_err-prepare-2-clause-outside c = let h = c.in_err-prepare-2.ensures in
    table_kept c.args.self.now (record c.args.self.now { pages = c.prepare-2.new.self; dirty = c.prepare.new.self }) c.args.first c.args.end (same_held _ _ (row_memory c.args.self.now.pages c.prepare-2.new.self h.same) (owned_row c.args.self.now.pages c.prepare-2.new.self h.own) (marked_row c.args.self.now.dirty c.prepare.new.self c.in_ok-prepare.ensures.same))

pub returns-clause-marks : goal.returns-clause-marks
returns-clause-marks c = marks_range c.args.self.now (record { pages = c.clear.new.self; dirty = c.mark.new.self; alloc = c.args.self.now.alloc }) c.prepare.new.self c.args.first c.args.end c.mark.ensures.marked c.in_ok-prepare.ensures.same (λ p k below out.
    ap (λ o. byte_in o k) (c.clear.ensures.cleared.page p below ∙ ap (λ b. cond b None (root_page c.prepare-2.new.self p)) (out_of_range c.args.first c.args.end p out)) ∙ c.in_ok-prepare-2.ensures.same.byte p k below)
