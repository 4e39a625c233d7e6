use Rattle.std.proofs.Common.{◌-◌, ◌∷◌, [], arith}
use Rattle.std.proofs.lemmas.Result.{IfOk-weaker}
use Rattle.demand_eval.proofs.Children.{child_below}
use Rattle.explain_core.proofs.BothSides.{child_below_ends, child_both, no_child, through_ends, through_more, through_stopped}
use Rattle.explain_core.proofs.Turns.{goes_sound}
use Rattle.explain_core.proofs.beside.+go_both.Goals as goal
use Rattle.explain_core.proofs.beside.+go_both.Goals.{both_below-in-Some, both_below-in-None}

pub both_below-go_both-requires : goal.both_below-go_both-requires
both_below-go_both-requires t c =
    let below = child_below c.args.depth c.args.first c.space.inside.top c.args.space.now c.in-Some.child.now c.space.inside.children c.requires.sound c.space.view_is c.in-Some.ensures.value in
    (omega arith, (below.0, (c.requires.asked, below.1)))

pub both_below-returns-clause-both : goal.both_below-returns-clause-both
both_below-returns-clause-both t c = elim c.match-get_mut.branch [
  | both_below-in-Some w ↦
      rw (w.result-is, w.space-inside-is, w.sides-is)
      (IfOk-weaker w.go_both.result _ _ (λ b h sure. child_both c.args.depth c.args.first c.args.number c.args.rest.now c.args.asked.now c.args.sides.now w.go_both.new.sides c.space.inside.top c.args.space.now w.in-Some.child.now
      w.go_both.new.space c.space.inside.children c.space.view_is w.in-Some.ensures.value (h sure)) w.go_both.ensures.both)
  | both_below-in-None w ↦
      rw (w.result-is, w.space-inside-is, w.sides-is)
      (λ sure. no_child c.args.depth c.args.first c.args.number c.args.rest.now c.args.asked.now c.args.sides.now c.space.inside.top c.args.space.now c.space.inside.children c.requires.asked c.space.view_is w.in-None.ensures.value)
]

pub both_below-returns-clause-out : goal.both_below-returns-clause-out
both_below-returns-clause-out t c = elim c.match-get_mut.branch [
  | both_below-in-Some w ↦
      rw (w.result-is, w.space-inside-is, w.sides-is)
      (IfOk-weaker w.go_both.result _ _ (λ b h sure. child_below_ends c.args.depth c.args.first c.args.number c.args.rest.now c.args.asked.now c.args.sides.now w.go_both.new.sides c.space.inside.top c.args.space.now w.in-Some.child.now
      w.go_both.new.space c.space.inside.children c.space.view_is w.in-Some.ensures.value (h sure)) w.go_both.ensures.out)
  | both_below-in-None w ↦ rw w.result-is (λ sure. cc)
]

pub both_through-returns-then-not-both-clause-out : goal.both_through-returns-then-not-both-clause-out
both_through-returns-then-not-both-clause-out t c sure =
    through_ends (8 - c.args.depth) c.args.number (c.args.first ∷ c.args.rest.now) c.args.asked.now c.args.sides.now c.turns.sides c.both_below.new.sides c.args.space.now c.turns.space c.both_below.new.space
    c.requires.asked c.turns.invariant.0 (c.in_ok-both.ensures.out c.if-not-both.true)

pub both_through-take_turn-requires-clause-sound : goal.both_through-take_turn-requires-clause-sound
both_through-take_turn-requires-clause-sound t c =
    let come = c.in_ok-both.ensures.both c.if-not-both.false in
    let above = come.above in
    goes_sound (8 - c.args.depth) (c.args.first ∷ c.args.rest.now) above.own c.turns.space c.both_below.new.space above.goes c.turns.invariant.1

pub both_through-returns-then-turn-clause-both : goal.both_through-returns-then-turn-clause-both
both_through-returns-then-turn-clause-both t c sure =
    through_stopped (8 - c.args.depth) _ c.args.first c.args.number c.args.rest.now c.args.asked.now c.args.sides.now c.turns.sides c.both_below.new.sides c.in_ok-turn.turn c.args.space.now c.turns.space c.both_below.new.space c.take_turn.new.space
    c.requires.asked c.turns.invariant.0 (c.in_ok-both.ensures.both c.if-not-both.false) c.in_ok-turn.ensures c.if-turn.true

pub both_through-turns-preserved : goal.both_through-turns-preserved
both_through-turns-preserved t c =
    let come = c.in_ok-both.ensures.both c.if-not-both.false in
    let above = come.above in
    let takes = c.in_ok-turn.ensures in
    let sound = goes_sound (8 - c.args.depth) (c.args.first ∷ c.args.rest.now) above.own c.turns.space c.both_below.new.space above.goes c.turns.invariant.1 in (
      through_more (8 - c.args.depth) _ c.args.first c.args.number c.args.rest.now c.args.asked.now c.args.sides.now c.turns.sides c.both_below.new.sides c.in_ok-turn.turn c.args.space.now c.turns.space c.both_below.new.space c.take_turn.new.space
          c.requires.asked c.turns.invariant.0 come takes,
      goes_sound (8 - c.args.depth) [] takes.own c.both_below.new.space c.take_turn.new.space takes.itself sound,
    )
