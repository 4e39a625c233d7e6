use Rattle.std.specs.Prelude.{is_some}
use Rattle.user_runtime.proofs.Meetings.{fork_met}
use Rattle.user_runtime.proofs.forking.fork_by.Goals as goal

pub returns-clause-ok : goal.returns-clause-ok
returns-clause-ok c =
    fork_met (is_some c.args.snapshot) c.args.number c.args.space.now c.space.inside.top c.pay_and_succeed.new.self _ _ c.space.view_is c.requires.pays.fuel c.in_ok-give_child.ensures.ok c.pay_and_succeed.ensures
