use Rattle.round_eval.proofs.Jobs.{none_ended, one_more_ended}
use Rattle.round_eval.proofs.starting.end_each.Goals as goal

pub loop-one-init : goal.loop-one-init
loop-one-init g c = none_ended c.in_ok-dones.dones.items c.in_ok-dones.ensures.items

pub loop-one-preserved : goal.loop-one-preserved
loop-one-preserved g c = one_more_ended c.loop-one.yielded c.in-Some.one c.loop-one.dones.items c.push.new.self.items c.in_ok-end_one.field-0 c.in_ok-push.ensures.items c.loop-one.invariant c.in_ok-end_one.ensures
