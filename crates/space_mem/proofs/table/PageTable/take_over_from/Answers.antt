use Rattle.std.specs.Prelude.{map}
use Rattle.space_mem.specs.Taken.{taken_page}
use Rattle.space_mem.proofs.Taken.{can_put, prepared_keeps, prepared_marks, put_all, put_marks, put_start}
use Rattle.space_mem.proofs.table.PageTable.take_over_from.Goals as goal

pub returns-in_err-puts-clause-others : goal.returns-in_err-puts-clause-others
returns-in_err-puts-clause-others c = prepared_keeps (map taken_page c.args.each.now) c.args.self.now c.prepare_from.new.self c.in_err-puts.ensures.prepared

pub returns-in_err-puts-clause-marks : goal.returns-in_err-puts-clause-marks
returns-in_err-puts-clause-marks c = prepared_marks (map taken_page c.args.each.now) c.args.self.now c.prepare_from.new.self c.in_err-puts.ensures.prepared

pub put_each-requires : goal.put_each-requires
put_each-requires c = can_put c.prepare_from.new.self c.requires.once.memory c.in_ok-puts.puts.items (c.in_ok-puts.ensures.ready c.requires.once.memory c.requires.once.taken)

pub returns : goal.returns
returns c =
    let t = c.args.self.now in
    let u = c.put_each.new.self in
    let each = map taken_page c.args.each.now in
    let one = c.requires.once.memory in
    let done = c.put_each.ensures.put t one each (put_start t c.prepare_from.new.self one each c.in_ok-puts.puts.items c.in_ok-puts.ensures.prepared c.in_ok-puts.ensures.pages (c.in_ok-puts.ensures.ready one c.requires.once.taken)) in
    record {
      table = done.table;
      ok = λ m from. put_all t u m each (c.put_each.ensures.put t m each (put_start t c.prepare_from.new.self m each c.in_ok-puts.puts.items c.in_ok-puts.ensures.prepared c.in_ok-puts.ensures.pages (c.in_ok-puts.ensures.ready m from)));
      err = tt;
      owned = tt;
      others = done.keeps;
      marks = put_marks t u one each done;
    }
