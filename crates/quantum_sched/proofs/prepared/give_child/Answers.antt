use Rattle.std.proofs.Common.{ap}
use Rattle.quantum_sched.specs.Rows.{Ready}
use Rattle.quantum_sched.proofs.Edits.{given_none, given_to}
use Rattle.quantum_sched.proofs.prepared.give_child.Goals as goal

pub returns-in-Some : goal.returns-in-Some
returns-in-Some c = given_to c.args.quantum c.prepared.inside.number c.args.prepared c.in-Some.child.now _ c.args.children.now (ap (λ (p : Ready). p.0) c.prepared.view_is) c.in-Some.ensures.value c.give_space.ensures

pub returns-in_default : goal.returns-in_default
returns-in_default c = given_none c.args.quantum c.prepared.inside.number c.args.prepared c.args.children.now (ap (λ (p : Ready). p.0) c.prepared.view_is) c.in_default.ensures.value
