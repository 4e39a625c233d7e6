use Rattle.std.proofs.Common.{refl}
use Rattle.space_mem.proofs.Tables.{same_held}
use Rattle.space_mem.proofs.Updates.{at_error, marked_as, marked_row}
use Rattle.space_mem.proofs.table.PageTable.unmark.Goals as goal

pub returns-in_err-unmark-clause-err : goal.returns-in_err-unmark-clause-err
returns-in_err-unmark-clause-err c = at_error c.from_residual.result _ (same_held _ _ refl refl (marked_row c.args.self.now.dirty c.unmark.new.self c.in_err-unmark.ensures.err))

pub returns-clause-ok : goal.returns-clause-ok
returns-clause-ok c = same_held _ _ refl refl (marked_as c.args.self.now.dirty c.unmark.new.self c.args.page 0 c.requires.page c.in_ok-unmark.ensures.ok)
