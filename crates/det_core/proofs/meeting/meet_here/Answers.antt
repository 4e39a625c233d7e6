use Rattle.std.proofs.Common.{◌-◌, subst}
use Rattle.space_model.specs.Space.{top_of}
use Rattle.space_model.specs.Event.{MayPay}
use Rattle.det_core.proofs.Calls.{may_meet_next}
use Rattle.det_core.proofs.meeting.meet_here.Goals as goal

pub try_call-requires : goal.try_call-requires
try_call-requires c =
    let may = may_meet_next (8 - c.args.depth) _ c.in-Meet.call c.space.inside.top c.in-Meet.is c.peek.ensures in
    record { depth = c.requires; may_meet = may.0; may_pay = subst (λ s. MayPay (top_of s)) c.space.view_is may.1 }
