use Rattle.std.proofs.Common.{◌∙◌, ap, refl}
use Rattle.memory_model.specs.Sparse.{put}
use Rattle.space_mem.proofs.Tables.{same_held, owned_same}
use Rattle.space_mem.proofs.Updates.{at_error, marked_one, owned_one, root_memory, marked_row}
use Rattle.space_mem.specs.Tables.{held_of}
use Rattle.space_mem.proofs.Dirty.{marks_same, marks_owns}
use Rattle.space_mem.proofs.table.PageTable.own_clean_page.Goals as goal

pub returns-in_err-prepare-clause-err : goal.returns-in_err-prepare-clause-err
returns-in_err-prepare-clause-err c = at_error c.from_residual.result _ (same_held _ _ refl refl (marked_row c.args.self.now.dirty c.prepare.new.self c.in_err-prepare.ensures.same))

pub returns-in_err-own_page-clause-err : goal.returns-in_err-own_page-clause-err
returns-in_err-own_page-clause-err c = let h = c.in_err-own_page.ensures in
    at_error c.from_residual-in_err-own_page.result _ (same_held _ _ (root_memory c.args.self.now.pages c.own_page.new.self h.same) (owned_same c.args.self.now.pages c.own_page.new.self h.err) (marked_row c.args.self.now.dirty c.prepare.new.self c.in_ok-prepare.ensures.same))

pub returns-clause-ok : goal.returns-clause-ok
returns-clause-ok c = let h = c.in_ok-own_page.ensures in
    same_held _ _ (root_memory c.args.self.now.pages c.own_page.new.self h.same) (owned_one c.args.self.now.pages c.own_page.new.self c.args.page c.requires.page h.owned)
    (marked_one c.prepare.new.self c.mark.new.self c.args.page c.requires.page c.mark.ensures.marked ∙ ap (λ s. put s c.args.page 1) (marked_row c.args.self.now.dirty c.prepare.new.self c.in_ok-prepare.ensures.same))

pub returns-in_err-prepare-clause-marks : goal.returns-in_err-prepare-clause-marks
returns-in_err-prepare-clause-marks c = marks_same (held_of c.args.self.now) _ (same_held _ _ refl refl (marked_row c.args.self.now.dirty c.prepare.new.self c.in_err-prepare.ensures.same))

pub returns-in_err-own_page-clause-marks : goal.returns-in_err-own_page-clause-marks
returns-in_err-own_page-clause-marks c = let h = c.in_err-own_page.ensures in
    marks_same (held_of c.args.self.now) _ (same_held _ _ (root_memory c.args.self.now.pages c.own_page.new.self h.same) (owned_same c.args.self.now.pages c.own_page.new.self h.err) (marked_row c.args.self.now.dirty c.prepare.new.self c.in_ok-prepare.ensures.same))

pub returns-clause-marks : goal.returns-clause-marks
returns-clause-marks c = marks_owns (held_of c.args.self.now) _ c.args.page (returns-clause-ok c)
