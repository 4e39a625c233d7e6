use Rattle.std.proofs.Common.{◌∙◌}
use Rattle.put_get.proofs.Meetings.{put_met}
use Rattle.put_get.proofs.put.put.Goals as goal

pub returns-clause-ok : goal.returns-clause-ok
returns-clause-ok c =
    put_met c.args.x.now c.args.space.now c.space.inside.top c.pay_and_succeed.new.self _ _ (c.space.view_is ∙ c.in_ok-share.ensures.same) c.requires.pays.fuel c.in_ok-give_child.ensures.ok c.pay_and_succeed.ensures
