use Rattle.quantum_sched.proofs.Edits.{given_more}
use Rattle.quantum_sched.proofs.prepared.give_each.Goals as goal

pub loop-one-preserved : goal.loop-one-preserved
loop-one-preserved c = given_more c.args.quantum c.loop-one.yielded c.in-Some.one c.args.children.now c.loop-one.children c.give_child.new.children c.loop-one.invariant c.give_child.ensures
