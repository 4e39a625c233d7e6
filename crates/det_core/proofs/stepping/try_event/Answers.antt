use Rattle.std.proofs.Common.{◌-◌}
use Rattle.det_core.proofs.Calls.{may_meet}
use Rattle.det_core.proofs.stepping.try_event.Goals as goal

pub try_call-requires : goal.try_call-requires
try_call-requires c =
    let may = may_meet (8 - c.args.depth) c.in_ok-next.field-0 c.in-Meet.call c.space.inside.top c.next.new.top c.in-Meet.is c.in_ok-next.ensures.steps in
    record { depth = c.requires; may_meet = may.0; may_pay = may.1 }
