use Rattle.space_mem.specs.Tables.{memory_of}
use Rattle.space_mem.proofs.Taken.{can_put, prepared_keeps, prepared_marks, put_all, put_marks, put_start}
use Rattle.space_mem.proofs.table.PageTable.take_over.Goals as goal

pub returns-in_err-puts-clause-others : goal.returns-in_err-puts-clause-others
returns-in_err-puts-clause-others c = prepared_keeps c.args.each.now c.args.self.now c.prepare_each.new.self c.in_err-puts.ensures.prepared

pub returns-in_err-puts-clause-marks : goal.returns-in_err-puts-clause-marks
returns-in_err-puts-clause-marks c = prepared_marks c.args.each.now c.args.self.now c.prepare_each.new.self c.in_err-puts.ensures.prepared

pub put_each-requires : goal.put_each-requires
put_each-requires c = can_put c.prepare_each.new.self (memory_of c.args.source.now.pages) c.in_ok-puts.puts.items c.in_ok-puts.ensures.ready

pub returns : goal.returns
returns c =
    let t = c.args.self.now in
    let u = c.put_each.new.self in
    let source = memory_of c.args.source.now.pages in
    let each = c.args.each.now in
    let done = c.put_each.ensures.put t source each (put_start t c.prepare_each.new.self source each c.in_ok-puts.puts.items c.in_ok-puts.ensures.prepared c.in_ok-puts.ensures.pages c.in_ok-puts.ensures.ready) in
    record {
      table = done.table;
      ok = put_all t u source each done;
      err = tt;
      owned = tt;
      others = done.keeps;
      marks = put_marks t u source each done;
    }
