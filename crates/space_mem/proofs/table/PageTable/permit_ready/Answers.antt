use Rattle.std.proofs.Common.{◌-◌, sym, arith, refl, subst}
use Rattle.space_mem.specs.Held.{Marks}
use Rattle.space_mem.specs.Tables.{held_of}
use Rattle.space_mem.proofs.Dirty.{marks_permitted}
use Rattle.space_mem.proofs.RangeEdits.{permitted_memory}
use Rattle.space_mem.proofs.Tables.{same_held}
use Rattle.space_mem.proofs.Updates.{owned_row}
use Rattle.space_mem.proofs.table.PageTable.permit_ready.Goals as goal

pub returns-clause-held : goal.returns-clause-held
returns-clause-held c = let p = c.permit.ensures.permitted in
    same_held _ _ (permitted_memory c.args.self.now.pages c.permit.new.self c.args.first c.args.end c.args.permission (omega arith) c.requires.within p) (owned_row c.args.self.now.pages c.permit.new.self p.own) refl

pub returns-clause-marks : goal.returns-clause-marks
returns-clause-marks c = subst (Marks (held_of c.args.self.now)) (sym (returns-clause-held c)) (marks_permitted (held_of c.args.self.now) c.args.first (c.args.end - c.args.first) c.args.permission)
