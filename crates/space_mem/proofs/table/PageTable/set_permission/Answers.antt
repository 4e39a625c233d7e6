use Rattle.std.proofs.Common.{◌-◌, ◌∙◌, sym, ap, refl}
use Rattle.space_mem.proofs.Tables.{same_held}
use Rattle.space_mem.proofs.Updates.{at_error, row_memory, owned_row}
use Rattle.space_mem.proofs.RangeEdits.{permitted_memory}
use Rattle.memory_model.specs.Memory.{with_permissions}
use Rattle.std.proofs.Common.{subst}
use Rattle.space_mem.specs.Held.{Marks}
use Rattle.space_mem.specs.Tables.{held_of}
use Rattle.space_mem.proofs.Dirty.{marks_refl, marks_same, marks_permitted}
use Rattle.space_mem.proofs.table.PageTable.set_permission.Goals as goal

pub returns-in_err-prepare-clause-err : goal.returns-in_err-prepare-clause-err
returns-in_err-prepare-clause-err c = let h = c.in_err-prepare.ensures in at_error c.from_residual.result _ (same_held _ _ (row_memory c.args.self.now.pages c.prepare.new.self h.same) (owned_row c.args.self.now.pages c.prepare.new.self h.own) refl)

pub returns-clause-ok : goal.returns-clause-ok
returns-clause-ok c = let h = c.in_ok-prepare.ensures in let p = c.permit.ensures.permitted in
    same_held _ _
    (permitted_memory c.prepare.new.self c.permit.new.self c.args.first c.args.end c.args.permission c.requires.rise c.requires.within p
    ∙ ap (λ m. with_permissions m c.args.first (c.args.end - c.args.first) c.args.permission) (row_memory c.args.self.now.pages c.prepare.new.self h.same))
    (owned_row c.prepare.new.self c.permit.new.self p.own ∙ owned_row c.args.self.now.pages c.prepare.new.self h.own) refl

pub returns-then-first-end-clause-marks : goal.returns-then-first-end-clause-marks
returns-then-first-end-clause-marks c = marks_refl (held_of c.args.self.now)

pub returns-in_err-prepare-clause-marks : goal.returns-in_err-prepare-clause-marks
returns-in_err-prepare-clause-marks c = let h = c.in_err-prepare.ensures in
    marks_same (held_of c.args.self.now) _ (same_held _ _ (row_memory c.args.self.now.pages c.prepare.new.self h.same) (owned_row c.args.self.now.pages c.prepare.new.self h.own) refl)

pub returns-clause-marks : goal.returns-clause-marks
returns-clause-marks c = subst (Marks (held_of c.args.self.now)) (sym (returns-clause-ok c)) (marks_permitted (held_of c.args.self.now) c.args.first (c.args.end - c.args.first) c.args.permission)
