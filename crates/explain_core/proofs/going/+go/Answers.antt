use Rattle.std.proofs.Common.{◌-◌, ◌∷◌, [], arith}
use Rattle.std.proofs.lemmas.Result.{IfOk-weaker}
use Rattle.demand_eval.proofs.Children.{child_below}
use Rattle.explain_core.specs.Watch.{kept_of}
use Rattle.explain_core.proofs.Turns.{goes_sound}
use Rattle.explain_core.proofs.Coming.{come_child, come_stopped, come_through, none_child, turn_above}
use Rattle.explain_core.proofs.going.+go.Goals as goal
use Rattle.explain_core.proofs.going.+go.Goals.{go_below-in-Some, go_below-in-None}

pub go_below-go-requires : goal.go_below-go-requires
go_below-go-requires t c =
    let below = child_below c.args.depth c.args.number c.space.inside.top c.args.space.now c.in-Some.child.now c.space.inside.children c.requires.sound c.space.view_is c.in-Some.ensures.value in
    (omega arith, (below.0, (c.requires.some, (c.requires.within, below.1))))

pub go_below-returns : goal.go_below-returns
go_below-returns t c = elim c.match-get_mut.branch [
  | go_below-in-Some w ↦
      rw (w.result-is, w.space-inside-is, w.kept-is)
      (IfOk-weaker w.go.result _ _ (λ left h. come_child c.args.depth c.args.number c.args.asked.now c.args.wanted left c.args.rest.now (kept_of c.args.kept.now) (kept_of w.go.new.kept) c.space.inside.top c.args.space.now w.in-Some.child.now
      w.go.new.space c.space.inside.children c.space.view_is w.in-Some.ensures.value h) w.go.ensures)
  | go_below-in-None w ↦
      rw (w.result-is, w.space-inside-is, w.kept-is)
      (none_child c.args.depth c.args.number c.args.asked.now c.args.wanted c.args.rest.now (kept_of c.args.kept.now) c.space.inside.top c.args.space.now c.space.inside.children c.space.view_is w.in-None.ensures.value)
]

pub go_through-returns-then-left-eq0 : goal.go_through-returns-then-left-eq0
go_through-returns-then-left-eq0 t c =
    come_through (8 - c.args.depth) c.args.asked.now c.args.wanted c.turns.left c.in_ok-left.left (c.args.number ∷ c.args.rest.now) (kept_of c.args.kept.now) (kept_of c.turns.kept) (kept_of c.go_below.new.kept)
    c.args.space.now c.turns.space c.go_below.new.space c.requires.within c.turns.invariant.0 c.turns.invariant.1 c.if-left-eq0.true c.in_ok-left.ensures

pub go_through-take_turn-requires-clause-sound : goal.go_through-take_turn-requires-clause-sound
go_through-take_turn-requires-clause-sound t c =
    let come = c.in_ok-left.ensures in
    goes_sound (8 - c.args.depth) (c.args.number ∷ c.args.rest.now) come.own c.turns.space c.go_below.new.space come.goes c.turns.invariant.3

pub go_through-returns-then-turn : goal.go_through-returns-then-turn
go_through-returns-then-turn t c =
    let more = c.if-left-eq0.false in
    come_stopped (8 - c.args.depth) _ c.args.number c.args.asked.now c.args.wanted c.turns.left c.in_ok-left.left c.args.rest.now (kept_of c.args.kept.now) (kept_of c.turns.kept) (kept_of c.go_below.new.kept) c.in_ok-turn.turn
    c.args.space.now c.turns.space c.go_below.new.space c.take_turn.new.space c.requires.within c.turns.invariant.0 c.in_ok-left.ensures (omega (arith, more)) c.in_ok-turn.ensures c.if-turn.true

pub go_through-turns-preserved : goal.go_through-turns-preserved
go_through-turns-preserved t c =
    let more = c.if-left-eq0.false in
    let come = c.in_ok-left.ensures in
    let takes = c.in_ok-turn.ensures in
    let fewer = come.count in
    let fits = c.turns.invariant.2 in
    let sound = goes_sound (8 - c.args.depth) (c.args.number ∷ c.args.rest.now) come.own c.turns.space c.go_below.new.space come.goes c.turns.invariant.3 in (
      turn_above (8 - c.args.depth) _ c.args.number c.args.asked.now c.args.wanted c.turns.left c.in_ok-left.left c.args.rest.now (kept_of c.args.kept.now) (kept_of c.turns.kept) (kept_of c.go_below.new.kept) c.in_ok-turn.turn
          c.args.space.now c.turns.space c.go_below.new.space c.take_turn.new.space c.requires.within c.turns.invariant.0 come (omega (arith, more)) takes,
      omega (arith, more),
      omega (arith, fewer, fits),
      goes_sound (8 - c.args.depth) [] takes.own c.go_below.new.space c.take_turn.new.space takes.itself sound,
    )
