use Rattle.std.proofs.Common.{◌-◌}
use Rattle.std.proofs.lemmas.Result.{on_ok_weaker}
use Rattle.space_model.proofs.Callers.{met_sound, stays_sound}
use Rattle.put_get.proofs.Meetings.{acts_met, stops_met}
use Rattle.put_get.proofs.meeting.apply.Goals as goal

pub returns-in-Some-clause-ok : goal.returns-in-Some-clause-ok
returns-in-Some-clause-ok c = stops_met (8 - c.args.depth) c.args.call c.args.space.now c.in-Some.refusal c.space.inside.top c.trap.new.self _ c.requires.is_call c.space.view_is c.in-Some.ensures c.trap.ensures

pub returns-in-Some-clause-sound : goal.returns-in-Some-clause-sound
returns-in-Some-clause-sound c = met_sound c.args.depth c.args.call c.args.space.now _ c.requires.may_call (returns-in-Some-clause-ok c)

pub returns-in-None-clause-ok : goal.returns-in-None-clause-ok
returns-in-None-clause-ok c = on_ok_weaker c.act_or_stop.result (acts_met (8 - c.args.depth) c.args.call c.args.space.now c.act_or_stop.new.space c.requires.is_call c.in-None.ensures) c.act_or_stop.ensures.ok

pub returns-in-None-clause-sound : goal.returns-in-None-clause-sound
returns-in-None-clause-sound c =
    stays_sound c.act_or_stop.result c.args.depth c.args.call c.args.space.now c.act_or_stop.new.space c.requires.may_call (returns-in-None-clause-ok c) c.act_or_stop.ensures.err
