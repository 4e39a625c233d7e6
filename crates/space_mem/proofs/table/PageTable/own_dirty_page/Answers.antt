use Rattle.std.proofs.Common.{◌∙◌, sym, arith, refl}
use Rattle.space_mem.specs.Tables.{marked_of}
use Rattle.space_mem.proofs.Tables.{same_held, owned_same, marked_at}
use Rattle.space_mem.proofs.Updates.{at_error, owned_one, root_memory, put_again, marks_owned}
use Rattle.space_mem.specs.Tables.{held_of}
use Rattle.space_mem.proofs.Dirty.{marks_same, marks_owns}
use Rattle.space_mem.proofs.table.PageTable.own_dirty_page.Goals as goal

pub returns-in_err-own_page-clause-err : goal.returns-in_err-own_page-clause-err
returns-in_err-own_page-clause-err c = let h = c.in_err-own_page.ensures in
    at_error c.from_residual.result _ (same_held _ _ (root_memory c.args.self.now.pages c.own_page.new.self h.same) (owned_same c.args.self.now.pages c.own_page.new.self h.err) refl)

pub returns-clause-table : goal.returns-clause-table
returns-clause-table c = let h = c.in_ok-own_page.ensures in let table = c.requires.table in record {
  whole = h.whole table.whole;
  permission = λ p low. omega (arith, h.same.permission p low, table.permission p low);
  marked = marks_owned c.args.self.now.pages c.own_page.new.self c.args.self.now.dirty c.args.page c.requires.page h.owned c.requires.dirty table.marked;
  bare = table.bare;
}

pub returns-clause-ok : goal.returns-clause-ok
returns-clause-ok c = let h = c.in_ok-own_page.ensures in
    same_held _ _ (root_memory c.args.self.now.pages c.own_page.new.self h.same) (owned_one c.args.self.now.pages c.own_page.new.self c.args.page c.requires.page h.owned)
    (sym (put_again (marked_of c.args.self.now.dirty) c.args.page 1 (marked_at c.args.self.now.dirty c.args.page c.requires.page ∙ c.requires.dirty)))

pub returns-in_err-own_page-clause-marks : goal.returns-in_err-own_page-clause-marks
returns-in_err-own_page-clause-marks c = let h = c.in_err-own_page.ensures in
    marks_same (held_of c.args.self.now) _ (same_held _ _ (root_memory c.args.self.now.pages c.own_page.new.self h.same) (owned_same c.args.self.now.pages c.own_page.new.self h.err) refl)

pub returns-clause-marks : goal.returns-clause-marks
returns-clause-marks c = marks_owns (held_of c.args.self.now) _ c.args.page (returns-clause-ok c)
