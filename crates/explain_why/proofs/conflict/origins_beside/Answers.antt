use Rattle.std.proofs.Common.{codes, subst}
use Rattle.memory_model.specs.Memory.{byte_at}
use Rattle.explain_core.specs.declared.watching.Watched.TheVariants.{Byte}
use Rattle.explain_why.specs.Origin.{TellsOrigin}
use Rattle.explain_why.specs.Why.{all_events}
use Rattle.explain_why.proofs.conflict.origins_beside.Goals as goal

pub returns-in_ok-of_parent-in-Some-clause-child : goal.returns-in_ok-of_parent-in-Some-clause-child
returns-in_ok-of_parent-in-Some-clause-child c = subst (λ r. TellsOrigin r (Byte c.args.address) c.args.below.now.items all_events (byte_at c.args.child.now.memory c.args.address) (codes "child changed by") c.in_ok-of_child-in-Some.of_child.items) c.copy_tree.ensures.same c.in_ok-of_child-in-Some.ensures.told
