use Rattle.std.proofs.Common.{◌∙◌, ap, refl}
use Rattle.memory_model.specs.Sparse.{put}
use Rattle.space_mem.proofs.Tables.{same_held}
use Rattle.space_mem.proofs.Updates.{at_error, marked_one, marked_row}
use Rattle.space_mem.proofs.table.PageTable.mark.Goals as goal

pub returns-in_err-prepare-clause-err : goal.returns-in_err-prepare-clause-err
returns-in_err-prepare-clause-err c = at_error c.from_residual.result _ (same_held _ _ refl refl (marked_row c.args.self.now.dirty c.prepare.new.self c.in_err-prepare.ensures.same))

pub returns-clause-ok : goal.returns-clause-ok
returns-clause-ok c = same_held _ _ refl refl (marked_one c.prepare.new.self c.mark.new.self c.args.page c.requires.page c.mark.ensures.marked ∙ ap (λ s. put s c.args.page 1) (marked_row c.args.self.now.dirty c.prepare.new.self c.in_ok-prepare.ensures.same))
