use Rattle.std.proofs.Common.{◌≡◌, arith, refl, sym, subst}
use Rattle.space_mem.specs.declared.table.PageTable.{PageTable}
use Rattle.space_mem.specs.Tables.{held_of}
use Rattle.space_mem.proofs.Copies.{IsCopied, IsMarked, at_error, copied_page, marked_part, copied_table, copied_memory, copied_outside, copied_marks, prepared_held, same_marks, same_row}
use Rattle.space_mem.proofs.Kept.{table_kept}
use Rattle.space_mem.proofs.table.PageTable.copy_page.Goals as goal

pub returns-in_err-prepare-clause-err : goal.returns-in_err-prepare-clause-err
returns-in_err-prepare-clause-err c =
    let t : PageTable = c.args.self.now in
    let s : PageTable = record t { dirty = c.prepare.new.self } in
    at_error c.from_residual.result (held_of s ≡ held_of t) (prepared_held t s (same_row t.pages) (λ p below. refl) c.in_err-prepare.ensures.same)

pub returns-in_err-prepare-clause-outside : goal.returns-in_err-prepare-clause-outside
returns-in_err-prepare-clause-outside c =
    let t : PageTable = c.args.self.now in
    let s : PageTable = record t { dirty = c.prepare.new.self } in
    table_kept t s c.args.first c.args.end (prepared_held t s (same_row t.pages) (λ p below. refl) c.in_err-prepare.ensures.same)

pub returns-in_err-prepare-clause-marks : goal.returns-in_err-prepare-clause-marks
returns-in_err-prepare-clause-marks c =
    let t : PageTable = c.args.self.now in
    let s : PageTable = record t { dirty = c.prepare.new.self } in
    same_marks t s (prepared_held t s (same_row t.pages) (λ p below. refl) c.in_err-prepare.ensures.same)

pub returns-in_err-move_page-clause-err : goal.returns-in_err-move_page-clause-err
returns-in_err-move_page-clause-err c =
    let t : PageTable = c.args.self.now in
    let s : PageTable = record t { pages = c.move_page.new.made; dirty = c.prepare.new.self } in
    at_error c.from_residual-in_err-move_page.result (held_of s ≡ held_of t) (prepared_held t s c.in_err-move_page.ensures.err c.in_err-move_page.ensures.err_owners c.in_ok-prepare.ensures.same)

pub returns-in_err-move_page-clause-outside : goal.returns-in_err-move_page-clause-outside
returns-in_err-move_page-clause-outside c =
    let t : PageTable = c.args.self.now in
    let s : PageTable = record t { pages = c.move_page.new.made; dirty = c.prepare.new.self } in
    table_kept t s c.args.first c.args.end (prepared_held t s c.in_err-move_page.ensures.err c.in_err-move_page.ensures.err_owners c.in_ok-prepare.ensures.same)

pub returns-in_err-move_page-clause-marks : goal.returns-in_err-move_page-clause-marks
returns-in_err-move_page-clause-marks c =
    let t : PageTable = c.args.self.now in
    let s : PageTable = record t { pages = c.move_page.new.made; dirty = c.prepare.new.self } in
    same_marks t s (prepared_held t s c.in_err-move_page.ensures.err c.in_err-move_page.ensures.err_owners c.in_ok-prepare.ensures.same)

pub returns : goal.returns
returns c =
    let t : PageTable = c.args.self.now in
    let s : PageTable = record t { pages = c.move_page.new.made; dirty = c.mark.new.self } in
    let source : PageTable = c.args.source.now in
    let from = c.args.from in
    let first = c.args.first in
    let end = c.args.end in
    let one = c.requires.one in
    let le = c.requires.within in
    let moved = c.in_ok-move_page.ensures in
    let copied : IsCopied from first end source.pages t.pages s.pages = subst (λ e. IsCopied from first e source.pages t.pages s.pages) (sym one) (copied_page from first source.pages t.pages s.pages (omega (arith, one, le)) moved.permission moved.byte moved.owners) in
    let marked : IsMarked first end t.dirty s.dirty = marked_part first end t.dirty c.prepare.new.self s.dirty c.requires.within c.in_ok-prepare.ensures.same c.mark.ensures.marked in
    record {
      table = copied_table from first end source t s c.requires.within c.requires.in_range c.requires.source c.requires.table copied marked
          (moved.whole c.requires.table.whole) (c.mark.ensures.bare (c.in_ok-prepare.ensures.bare c.requires.table.bare));
      ok = copied_memory from first end source.pages t.pages s.pages (omega (arith, one)) c.requires.within c.requires.in_range copied;
      err = tt;
      outside = copied_outside from first end source.pages t s copied marked;
      marks = copied_marks from first end source.pages t s copied marked;
    }
