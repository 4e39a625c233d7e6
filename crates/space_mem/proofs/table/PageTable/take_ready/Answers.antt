use Rattle.std.proofs.Common.{ℕ, List, All}
use Rattle.std.proofs.lemmas.List.Elements.{All-weaker}
use Rattle.page_tree.specs.declared.tree_ref.TreeRef.{TreeRef}
use Rattle.page_tree.specs.Replaceable.{ReplaceableRoot}
use Rattle.page_tree.specs.Rows.{SameOwners, SameRow}
use Rattle.page_tree.specs.TreeRefs.{root_row, AreWholeRoot}
use Rattle.space_mem.specs.declared.table.PageTable.{PageTable}
use Rattle.space_mem.specs.Tables.{memory_of}
use Rattle.space_mem.specs.Taken.{IsPrepared, IsReadyPut}
use Rattle.space_mem.proofs.Taken.{can_put, prepared_keeps, prepared_marks, prepared_part, prepared_then, put_all, put_marks, put_start, ready_stays}
use Rattle.space_mem.proofs.Updates.{at_error}
use Rattle.space_mem.proofs.table.PageTable.take_ready.Goals as goal

pub returns-in_err-puts-clause-others : goal.returns-in_err-puts-clause-others
returns-in_err-puts-clause-others c = prepared_keeps c.args.each.now c.args.self.now c.prepare_each.new.self c.in_err-puts.ensures.prepared

pub returns-in_err-puts-clause-marks : goal.returns-in_err-puts-clause-marks
returns-in_err-puts-clause-marks c = prepared_marks c.args.each.now c.args.self.now c.prepare_each.new.self c.in_err-puts.ensures.prepared

-- the table as it is when the range is not made ready
same : (t s : PageTable) (each : List ℕ) (x : TreeRef) → IsPrepared each t s → SameRow 1048576 (root_row s.pages) (root_row x) → SameOwners 1048576 (root_row s.pages) (root_row x) → ((p : ℕ) → ReplaceableRoot p s.pages → ReplaceableRoot p x) → (AreWholeRoot s.pages → AreWholeRoot x) → IsPrepared each t (record s { pages = x })
same t s each x before rows owners stays whole = prepared_then each t s (record s { pages = x }) before (prepared_part each s x before.table rows owners stays whole)

pub returns-in_err-prepare-clause-err : goal.returns-in_err-prepare-clause-err
returns-in_err-prepare-clause-err c = let made = c.in_err-prepare.ensures in
    at_error c.from_residual-in_err-prepare.result _ (same c.args.self.now c.prepare_each.new.self c.args.each.now c.prepare.new.self c.in_ok-puts.ensures.prepared made.same made.own made.stays made.whole).memory

pub returns-in_err-prepare-clause-owned : goal.returns-in_err-prepare-clause-owned
returns-in_err-prepare-clause-owned c = let made = c.in_err-prepare.ensures in
    at_error c.from_residual-in_err-prepare.result _ (same c.args.self.now c.prepare_each.new.self c.args.each.now c.prepare.new.self c.in_ok-puts.ensures.prepared made.same made.own made.stays made.whole).owned

pub returns-in_err-prepare-clause-others : goal.returns-in_err-prepare-clause-others
returns-in_err-prepare-clause-others c = let made = c.in_err-prepare.ensures in let s : PageTable = c.prepare_each.new.self in
    prepared_keeps c.args.each.now c.args.self.now (record s { pages = c.prepare.new.self }) (same c.args.self.now s c.args.each.now c.prepare.new.self c.in_ok-puts.ensures.prepared made.same made.own made.stays made.whole)

pub returns-in_err-prepare-clause-marks : goal.returns-in_err-prepare-clause-marks
returns-in_err-prepare-clause-marks c = let made = c.in_err-prepare.ensures in let s : PageTable = c.prepare_each.new.self in
    prepared_marks c.args.each.now c.args.self.now (record s { pages = c.prepare.new.self }) (same c.args.self.now s c.args.each.now c.prepare.new.self c.in_ok-puts.ensures.prepared made.same made.own made.stays made.whole)

pub put_each-requires : goal.put_each-requires
put_each-requires c =
    let s : PageTable = c.prepare_each.new.self in
    let each = c.args.each.now in
    let source = memory_of c.args.source.now.pages in
    let u : PageTable = record s { pages = c.prepare.new.self } in
    let made = c.in_ok-prepare.ensures in
    let part : IsPrepared each s u = prepared_part each s c.prepare.new.self c.in_ok-puts.ensures.prepared.table made.same made.own made.stays made.whole in
    can_put u source c.in_ok-puts.puts.items (All-weaker (IsReadyPut s source) (IsReadyPut u source) (λ put. ready_stays each s u source put part) c.in_ok-puts.puts.items c.in_ok-puts.ensures.ready)

pub returns : goal.returns
returns c =
    let t : PageTable = c.args.self.now in
    let s : PageTable = c.prepare_each.new.self in
    let each = c.args.each.now in
    let source = memory_of c.args.source.now.pages in
    let u : PageTable = record s { pages = c.prepare.new.self } in
    let v : PageTable = c.put_each.new.self in
    let made = c.in_ok-prepare.ensures in
    let part : IsPrepared each s u = prepared_part each s c.prepare.new.self c.in_ok-puts.ensures.prepared.table made.same made.own made.stays made.whole in
    let ready : All (IsReadyPut u source) c.in_ok-puts.puts.items = All-weaker (IsReadyPut s source) (IsReadyPut u source) (λ put. ready_stays each s u source put part) c.in_ok-puts.puts.items c.in_ok-puts.ensures.ready in
    let done = c.put_each.ensures.put t source each (put_start t u source each c.in_ok-puts.puts.items (prepared_then each t s u c.in_ok-puts.ensures.prepared part) c.in_ok-puts.ensures.pages ready) in
    record {
      table = done.table;
      ok = put_all t v source each done;
      ready = c.put_each.ensures.range c.args.first c.args.end made.ready;
      err = tt;
      owned = tt;
      others = done.keeps;
      marks = put_marks t v source each done;
    }
