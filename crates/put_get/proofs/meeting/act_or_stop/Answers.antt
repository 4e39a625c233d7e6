use Rattle.std.proofs.Common.{subst, ap, ◌∙◌}
use Rattle.space_model.specs.declared.Refusal.{Refusal}
use Rattle.space_model.specs.Change.{stop, after_payment}
use Rattle.put_get.specs.Meetings.{conflict_of, MayStop}
use Rattle.put_get.proofs.Meetings.{acts_free, stops_at}
use Rattle.put_get.proofs.meeting.act_or_stop.Goals as goal

pub returns-in-Ok-clause-ok : goal.returns-in-Ok-clause-ok
returns-in-Ok-clause-ok c = acts_free c.args.call c.args.space.now c.act.new.space c.in-Ok.ensures.sure c.in-Ok.ensures.ok

pub returns-in-Err-Conflict-clause-ok : goal.returns-in-Err-Conflict-clause-ok
returns-in-Err-Conflict-clause-ok c =
    let found = subst (MayStop (conflict_of c.args.call c.args.space.now)) c.in-Err-Conflict.field-0-is c.in-Err-Conflict.ensures.conflict in
    stops_at c.args.call c.args.space.now c.in-Err-Conflict.addr c.space.inside.top c.trap.new.self _ (c.space.view_is ∙ c.in-Err-Conflict.ensures.err) found (c.trap.ensures ∙ ap (λ (r : Refusal). stop (after_payment c.space.inside.top c.space.inside.top) r.cause r.value) c.conflict.ensures)
