use Rattle.std.proofs.Common.{◌≡◌, ◌+◌, ◌*◌, ◌-◌, pred, drop}
use Rattle.space_model.specs.Space.{top_of}
use Rattle.run_model.specs.Demand.{run, settle, left_of}
use Rattle.demand_eval.specs.Turns.{IsSoundBelow, end_of}
use Rattle.demand_eval.proofs.Everyone.{over_all}
use Rattle.demand_eval.proofs.Awaited.{over_awaited}
use Rattle.demand_eval.proofs.running.+settle.Given as goal

abbrev pub decreases-finish : goal.decreases-finish
decreases-finish l = 6 * (9 - l.depth) + 5

abbrev pub decreases-run : goal.decreases-run
decreases-run l = 6 * (9 - l.depth) + 4

abbrev pub decreases-turn : goal.decreases-turn
decreases-turn l = 6 * (9 - l.depth) + 3

abbrev pub decreases-meet : goal.decreases-meet
decreases-meet l = 6 * (9 - l.depth) + 2

abbrev pub decreases-wait_for : goal.decreases-wait_for
decreases-wait_for l = 6 * (9 - l.depth) + 1

abbrev pub decreases-settle_children : goal.decreases-settle_children
decreases-settle_children l = 6 * (9 - l.depth) + 2

abbrev pub decreases-settle_each : goal.decreases-settle_each
decreases-settle_each l = 6 * (9 - l.depth) + 1

abbrev pub decreases-wait_for_child : goal.decreases-wait_for_child
decreases-wait_for_child l = 6 * (9 - l.depth)

abbrev pub invariant-run-turns : goal.invariant-run-turns
invariant-run-turns l = record {
  same : run (8 - l.depth) l.space ≡ run (8 - l.depth) l.fn.space;
  sound : IsSoundBelow (8 - l.depth) l.space;
}

abbrev pub decreases-run-turns : goal.decreases-run-turns
decreases-run-turns l = left_of (top_of l.space)

abbrev pub invariant-wait_for-loop-index : goal.invariant-wait_for-loop-index
invariant-wait_for-loop-index l = record {
  same : over_awaited (end_of (pred (8 - l.depth))) (drop l.index l.all) l.space ≡ over_awaited (end_of (pred (8 - l.depth))) l.all l.fn.space;
  sound : IsSoundBelow (8 - l.depth) l.space;
}

abbrev pub invariant-settle_each-loop-number : goal.invariant-settle_each-loop-number
invariant-settle_each-loop-number l = record {
  same : over_all (settle (pred (8 - l.depth))) (drop l.number-index l.number-items) l.space ≡ over_all (settle (pred (8 - l.depth))) l.number-items l.fn.space;
  sound : IsSoundBelow (8 - l.depth) l.space;
}
