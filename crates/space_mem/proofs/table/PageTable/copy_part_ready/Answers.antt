use Rattle.std.proofs.Common.{◌≡◌, arith, refl}
use Rattle.page_tree.proofs.Cuts.{ready_root}
use Rattle.space_mem.specs.declared.table.PageTable.{PageTable}
use Rattle.space_mem.specs.Tables.{held_of}
use Rattle.space_mem.proofs.Copies.{IsCopied, IsMarked, at_error, copied_part, marked_part, copied_table, copied_memory, copied_outside, copied_marks, prepared_held, same_marks, same_row}
use Rattle.space_mem.proofs.Kept.{table_kept}
use Rattle.space_mem.proofs.table.PageTable.copy_part_ready.Goals as goal

pub returns-in_err-prepare-2-clause-err : goal.returns-in_err-prepare-2-clause-err
returns-in_err-prepare-2-clause-err c =
    let t : PageTable = c.args.self.now in
    let s : PageTable = record t { dirty = c.prepare-2.new.self } in
    at_error c.from_residual-in_err-prepare-2.result (held_of s ≡ held_of t) (prepared_held t s (same_row t.pages) (λ p below. refl) c.in_err-prepare-2.ensures.same)

pub returns-in_err-made-clause-outside : goal.returns-in_err-made-clause-outside
returns-in_err-made-clause-outside c = table_kept c.args.self.now c.args.self.now c.args.first c.args.end refl

pub returns-in_err-prepare-clause-outside : goal.returns-in_err-prepare-clause-outside
returns-in_err-prepare-clause-outside c = table_kept c.args.self.now c.args.self.now c.args.first c.args.end refl

pub returns-in_err-prepare-2-clause-outside : goal.returns-in_err-prepare-2-clause-outside
returns-in_err-prepare-2-clause-outside c =
    let t : PageTable = c.args.self.now in
    let s : PageTable = record t { dirty = c.prepare-2.new.self } in
    table_kept t s c.args.first c.args.end (prepared_held t s (same_row t.pages) (λ p below. refl) c.in_err-prepare-2.ensures.same)

pub returns-in_err-prepare-3-clause-outside : goal.returns-in_err-prepare-3-clause-outside
returns-in_err-prepare-3-clause-outside c =
    let t : PageTable = c.args.self.now in
    let s : PageTable = record t { pages = c.prepare-3.new.self; dirty = c.prepare-2.new.self } in
    table_kept t s c.args.first c.args.end (prepared_held t s c.in_err-prepare-3.ensures.same c.in_err-prepare-3.ensures.own c.in_ok-prepare-2.ensures.same)

pub returns-in_err-prepare-2-clause-marks : goal.returns-in_err-prepare-2-clause-marks
returns-in_err-prepare-2-clause-marks c =
    let t : PageTable = c.args.self.now in
    let s : PageTable = record t { dirty = c.prepare-2.new.self } in
    same_marks t s (prepared_held t s (same_row t.pages) (λ p below. refl) c.in_err-prepare-2.ensures.same)

pub returns-in_err-prepare-3-clause-err : goal.returns-in_err-prepare-3-clause-err
returns-in_err-prepare-3-clause-err c =
    let t : PageTable = c.args.self.now in
    let s : PageTable = record t { pages = c.prepare-3.new.self; dirty = c.prepare-2.new.self } in
    at_error c.from_residual-in_err-prepare-3.result (held_of s ≡ held_of t) (prepared_held t s c.in_err-prepare-3.ensures.same c.in_err-prepare-3.ensures.own c.in_ok-prepare-2.ensures.same)

pub returns-in_err-prepare-3-clause-marks : goal.returns-in_err-prepare-3-clause-marks
returns-in_err-prepare-3-clause-marks c =
    let t : PageTable = c.args.self.now in
    let s : PageTable = record t { pages = c.prepare-3.new.self; dirty = c.prepare-2.new.self } in
    same_marks t s (prepared_held t s c.in_err-prepare-3.ensures.same c.in_err-prepare-3.ensures.own c.in_ok-prepare-2.ensures.same)

pub returns : goal.returns
returns c =
    let t : PageTable = c.args.self.now in
    let s : PageTable = record t { pages = c.take.new.self; dirty = c.mark.new.self } in
    let source : PageTable = c.args.source.now in
    let from = c.args.from in
    let first = c.args.first in
    let end = c.args.end in
    let copied : IsCopied from first end source.pages t.pages s.pages =
    copied_part from first end source.pages c.in_ok-made.made c.prepare.new.self t.pages c.prepare-3.new.self s.pages c.requires.within c.in_ok-made.ensures.moved c.in_ok-prepare.ensures.same c.in_ok-prepare-3.ensures.same c.in_ok-prepare-3.ensures.own c.take.ensures.taken in
    let marked : IsMarked first end t.dirty s.dirty = marked_part first end t.dirty c.prepare-2.new.self s.dirty c.requires.within c.in_ok-prepare-2.ensures.same c.mark.ensures.marked in
    record {
      table = copied_table from first end source t s c.requires.within c.requires.in_range c.requires.source c.requires.table copied marked
          (c.take.ensures.whole (c.in_ok-prepare-3.ensures.whole c.requires.table.whole) (c.in_ok-prepare.ensures.whole c.in_ok-made.ensures.whole))
          (c.mark.ensures.bare (c.in_ok-prepare-2.ensures.bare c.requires.table.bare));
      ok = copied_memory from first end source.pages t.pages s.pages (omega arith) c.requires.within c.requires.in_range copied;
      ready = c.take.ensures.ready c.in_ok-prepare-3.ensures.ready c.in_ok-prepare.ensures.ready;
      err = tt;
      outside = copied_outside from first end source.pages t s copied marked;
      marks = copied_marks from first end source.pages t s copied marked;
    }

pub take-requires-clause-cut : goal.take-requires-clause-cut
take-requires-clause-cut c = ready_root c.prepare-3.new.self c.args.first c.args.end c.in_ok-prepare-3.ensures.ready

pub take-requires-clause-other : goal.take-requires-clause-other
take-requires-clause-other c = ready_root c.prepare.new.self c.args.first c.args.end c.in_ok-prepare.ensures.ready
