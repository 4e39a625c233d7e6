use Rattle.std.proofs.Common.{◌-◌, pred, arith, Some, refl, ap, sym, ◌∙◌}
use Rattle.space_model.specs.Space.{over}
use Rattle.std.proofs.lemmas.Result.{on_ok_weaker}
use Rattle.demand_eval.specs.Turns.{end_of}
use Rattle.demand_eval.proofs.Children.{child_below, child_becomes, child_missing, one_below}
use Rattle.demand_eval.proofs.Turns.{may_meet, may_pay, met, met_devices, told_local, told_meet, told_stopped, advanced_sound, advanced, advanced_then, advanced_stopped}
use Rattle.demand_eval.proofs.Everyone.{over_all-more, over_all-done, settled_all, one_settled, run_then, ran_sound}
use Rattle.demand_eval.proofs.Awaited.{over_awaited-more, over_awaited-done, awaited_all, one_awaited}
use Rattle.demand_eval.proofs.Settled.{stays}
use Rattle.demand_eval.proofs.running.+settle.Goals as goal
use Rattle.demand_eval.proofs.running.+settle.Goals.{wait_for_child-in-Some, wait_for_child-in-None}

pub wait_for_child-finish-requires : goal.wait_for_child-finish-requires
wait_for_child-finish-requires t c =
    let below = child_below c.args.depth c.args.number c.space.inside.top c.args.space.now c.in-Some.child.now c.space.inside.children c.requires.sound c.space.view_is c.in-Some.ensures.value in
    (omega arith, below)

pub wait_for_child-returns : goal.wait_for_child-returns
wait_for_child-returns t c = elim c.match-get_mut.branch [
  | wait_for_child-in-Some w ↦
      rw (w.result-is, w.space-inside-is)
      (on_ok_weaker w.finish.result (λ h. child_becomes c.args.number (end_of (pred (8 - c.args.depth)) c.args.reach) c.space.inside.top c.args.space.now w.in-Some.child.now w.finish.new.space c.space.inside.children
      (over c.args.number (λ _. w.finish.new.space) c.space.inside.children) c.space.view_is w.in-Some.ensures.value (h ∙ ap (λ k. end_of k c.args.reach w.in-Some.child.now) (one_below c.args.depth)) refl)
      w.finish.ensures)
  | wait_for_child-in-None w ↦ rw (w.result-is, w.space-inside-is)
      (child_missing c.args.number (end_of (pred (8 - c.args.depth)) c.args.reach) c.space.inside.top c.args.space.now c.space.inside.children c.space.view_is w.in-None.ensures.value)
]

pub wait_for-loop-index-preserved : goal.wait_for-loop-index-preserved
wait_for-loop-index-preserved t c = record {
  same = over_awaited-more (end_of (pred (8 - c.args.depth))) c.awaits-all.result c.loop-index.index c.get-awaited.result c.loop-index.space c.wait_for_child.new.space c.get-awaited.ensures c.in_ok-wait_for_child.ensures
      ∙ c.loop-index.invariant.same;
  sound = one_awaited _ _ _ _ _ c.loop-index.invariant.sound c.in_ok-wait_for_child.ensures;
}

pub wait_for-returns : goal.wait_for-returns
wait_for-returns t c =
    let end = c.len-index-end.ensures in
    let past = c.loop-index-test.false in
    sym (over_awaited-done (end_of (pred (8 - c.args.depth))) c.awaits-all.result c.loop-index.index c.loop-index.space (omega (arith, end, past))) ∙ c.loop-index.invariant.same
    ∙ awaited_all (8 - c.args.depth) c.args.call c.awaits-all.result c.args.space.now c.requires.sound c.awaits-all.ensures

pub meet-meet-requires : goal.meet-meet-requires
meet-meet-requires t c =
    let waited = c.in_ok-wait_for.ensures in
    record { depth = c.requires.depth; may_meet = may_meet _ _ c.args.space.now c.requires.next; may_pay = may_pay _ _ c.args.space.now _ c.requires.next waited }

pub meet-returns-clause-goes : goal.meet-returns-clause-goes
meet-returns-clause-goes t c =
    let waited = c.in_ok-wait_for.ensures in
    on_ok_weaker c.meet.result (λ h. met _ _ _ _ _ c.requires.sound c.requires.next waited h) c.meet.ensures.ok

pub meet-returns-clause-devices : goal.meet-returns-clause-devices
meet-returns-clause-devices t c =
    let waited = c.in_ok-wait_for.ensures in
    on_ok_weaker c.meet.result (λ h. met_devices (8 - c.args.depth) c.args.call _ _ _ waited h) c.meet.ensures.ok

pub turn-meet-requires : goal.turn-meet-requires
turn-meet-requires t c =
    let ran = c.in_ok-reached.ensures.ok in
    (omega arith, (c.requires.depth, (advanced_sound _ _ _ _ _ _ c.requires.sound c.space.view_is ran.follows, told_meet _ _ _ _ _ _ ran.ended (c.in_ok-ok_or.ensures.ok_part ∙ ap Some c.in-Meet.is))))

pub turn-returns-in-Local : goal.turn-returns-in-Local
turn-returns-in-Local t c =
    let ran = c.in_ok-reached.ensures.ok in
    let all = told_local _ _ _ _ _ ran.ended (c.in_ok-ok_or.ensures.ok_part ∙ ap Some c.in-Local.is) in
    advanced _ _ _ _ _ _ c.requires.sound c.space.view_is ran.follows (omega (arith, all))

pub turn-returns-in_ok-meet-in-Meet : goal.turn-returns-in_ok-meet-in-Meet
turn-returns-in_ok-meet-in-Meet t c = advanced_then _ _ _ _ _ _ _ c.space.view_is c.in_ok-reached.ensures.ok.follows c.in_ok-meet-in-Meet.ensures.goes

pub turn-returns-in-Stopped : goal.turn-returns-in-Stopped
turn-returns-in-Stopped t c =
    let ran = c.in_ok-reached.ensures.ok in
    advanced_stopped _ _ _ _ _ _ c.space.view_is ran.follows (told_stopped _ _ _ _ _ ran.ended (c.in_ok-ok_or.ensures.ok_part ∙ ap Some c.in-Stopped.is))

pub settle_each-loop-number-preserved : goal.settle_each-loop-number-preserved
settle_each-loop-number-preserved t c = record {
  same = over_all-more _ _ _ _ _ c.loop-number-test.true c.in_ok-wait_for_child.ensures ∙ c.loop-number.invariant.same;
  sound = one_settled _ _ _ _ c.loop-number.invariant.sound c.in_ok-wait_for_child.ensures;
}

pub settle_each-returns : goal.settle_each-returns
settle_each-returns t c =
    sym (over_all-done _ _ _ _ c.loop-number-test.false) ∙ c.loop-number.invariant.same
    ∙ settled_all _ _ _ _ _ c.requires.sound c.space.view_is (c.deref-number-items.ensures.value ∙ c.in_ok-numbers.ensures)

pub settle_children-returns-then-are_known_settled : goal.settle_children-returns-then-are_known_settled
settle_children-returns-then-are_known_settled t c =
    stays (8 - c.args.depth) c.space.inside.top c.args.space.now c.space.inside.children c.requires.sound c.space.view_is (c.are_known_settled.ensures c.if-are_known_settled.true)

pub finish-returns-in-Itself : goal.finish-returns-in-Itself
finish-returns-in-Itself t c = c.in_ok-run.ensures ∙ ap (λ r. end_of (8 - c.args.depth) r c.args.space.now) (sym c.in-Itself.is)

pub finish-settle_children-requires : goal.finish-settle_children-requires
finish-settle_children-requires t c = (omega arith, (c.requires.depth, ran_sound _ _ _ c.requires.sound c.in_ok-run.ensures))

pub finish-returns-in-Whole : goal.finish-returns-in-Whole
finish-returns-in-Whole t c =
    on_ok_weaker c.settle_children.result (λ h. run_then _ _ _ _ c.in_ok-run.ensures h ∙ ap (λ r. end_of (8 - c.args.depth) r c.args.space.now) (sym c.in-Whole.is)) c.settle_children.ensures
