use Rattle.memory_files.specs.Files.{held_in}
use Rattle.memory_files.proofs.Parents.{plan_seen}
use Rattle.memory_files.proofs.reconciling.plan_of.Goals as goal

pub returns : goal.returns
returns c =
    let t = c.touched.ensures in
    let plan = plan_seen c.args.parent.now (held_in c.new.result) c.args.child.now (held_in c.new-2.result) c.touched.result.marks c.touched.result.whole c.touched.result.from c.new.ensures c.new-2.ensures (record { marks_are = t.marks; turns = t.whole; few = t.few; none = t.none }) in
    record { marks = plan.marks_are; turns = plan.turns; few = plan.few; from = t.from; none = plan.none }
