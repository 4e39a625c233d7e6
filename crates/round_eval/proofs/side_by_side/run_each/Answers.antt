use Rattle.round_eval.proofs.Jobs.{with_last}
use Rattle.round_eval.proofs.side_by_side.run_each.Goals as goal

pub returns : goal.returns
returns g c =
    with_last c.args.jobs.items c.pop.new.self.items c.in-Some.last c.push.new.self.items c.in_ok-dones.dones.items c.in_ok-own.field-0 c.in-Some.ensures.items c.in_ok-push.ensures.items
    (c.in_ok-dones.ensures c.pop.new.self.items c.in_ok-begun.ensures) c.in_ok-own.ensures
