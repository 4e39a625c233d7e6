use Rattle.std.proofs.Common.{◌-◌, Some, ap, ◌∙◌}
use Rattle.space_model.specs.Space.{space}
use Rattle.demand_eval.proofs.Turns.{may_meet, may_pay, told_local, told_meet, told_stopped}
use Rattle.explain_core.proofs.Turns.{few_met, few_stopped, turn_local, turn_met, turn_stopped}
use Rattle.explain_core.proofs.going.take_turn.Goals as goal

pub meet-requires : goal.meet-requires
meet-requires c =
    let calls = told_meet _ _ _ _ _ _ c.in_ok-reached.ensures.ok.ended (c.in_ok-ok_or.ensures.ok_part ∙ ap Some c.in-Meet.is) in
    let at = space c.advance.new.top c.space.inside.children in
    record { depth = c.requires.depth; may_meet = may_meet (8 - c.args.depth) c.in-Meet.call at calls; may_pay = may_pay (8 - c.args.depth) c.in-Meet.call at c.wait_for.new.space calls c.in_ok-wait_for-in-Meet.ensures }

pub returns-in-Local : goal.returns-in-Local
returns-in-Local c =
    let ran = c.in_ok-reached.ensures.ok in
    let all = told_local _ _ _ _ _ ran.ended (c.in_ok-ok_or.ensures.ok_part ∙ ap Some c.in-Local.is) in
    turn_local (8 - c.args.depth) c.args.most c.in_ok-reached.reached.ran c.space.inside.top c.advance.new.top c.space.inside.children c.args.space.now c.requires.sound c.space.view_is ran.follows c.requires.some all

pub returns-in_ok-meet-in-Meet : goal.returns-in_ok-meet-in-Meet
returns-in_ok-meet-in-Meet c =
    let ran = c.in_ok-reached.ensures.ok in
    let is = c.in_ok-ok_or.ensures.ok_part ∙ ap Some c.in-Meet.is in
    turn_met (8 - c.args.depth) c.args.most c.in_ok-reached.reached.ran c.in-Meet.call c.space.inside.top c.advance.new.top c.space.inside.children c.args.space.now c.wait_for.new.space c.meet.new.space
    c.requires.sound c.space.view_is ran.follows (few_met _ _ _ _ _ _ ran.ended is) (told_meet _ _ _ _ _ _ ran.ended is) c.in_ok-wait_for-in-Meet.ensures c.in_ok-meet-in-Meet.ensures.ok

pub returns-in-Stopped : goal.returns-in-Stopped
returns-in-Stopped c =
    let ran = c.in_ok-reached.ensures.ok in
    let is = c.in_ok-ok_or.ensures.ok_part ∙ ap Some c.in-Stopped.is in
    turn_stopped (8 - c.args.depth) c.args.most c.in_ok-reached.reached.ran c.space.inside.top c.advance.new.top c.space.inside.children c.args.space.now c.space.view_is ran.follows
    (few_stopped _ _ _ _ _ ran.ended is) (told_stopped _ _ _ _ _ ran.ended is)
