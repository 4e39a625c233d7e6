use Rattle.std.proofs.Common.{◌-◌, ◌∷◌, [], arith}
use Rattle.explain_core.specs.declared.beside.Sides.{Sides}
use Rattle.explain_core.proofs.BothSides.{beside_more, beside_stopped, child_ends, itself_ends}
use Rattle.explain_core.proofs.Turns.{goes_sound}
use Rattle.explain_core.proofs.beside.go_beside.Goals as goal

pub itself_goes-requires-clause-sound : goal.itself_goes-requires-clause-sound
itself_goes-requires-clause-sound c = let come = c.in_ok-child_goes.ensures in goes_sound (8 - c.args.depth) (c.args.number ∷ []) come.own c.turns.space c.child_goes.new.space come.goes c.turns.invariant.1

pub returns-then-sides-eq0-clause-out : goal.returns-then-sides-eq0-clause-out
returns-then-sides-eq0-clause-out c sure =
    let new : Sides = record { below = c.child_goes.new.side; above = c.turns.sides.above } in
    child_ends (8 - c.args.depth) c.args.number c.args.asked.now c.args.sides.now c.turns.sides new c.args.space.now c.turns.space c.child_goes.new.space c.requires.asked c.turns.invariant.0 c.in_ok-child_goes.ensures c.if-sides-eq0.true

pub returns-then-sides-eq0-2-clause-out : goal.returns-then-sides-eq0-2-clause-out
returns-then-sides-eq0-2-clause-out c sure =
    let some = c.if-sides-eq0.false in
    let new : Sides = record { below = c.child_goes.new.side; above = c.itself_goes.new.side } in
    itself_ends (8 - c.args.depth) c.args.number c.args.asked.now c.args.sides.now c.turns.sides new c.in_ok-turn.turn c.args.space.now c.turns.space c.child_goes.new.space c.itself_goes.new.space
    c.requires.asked c.turns.invariant.0 c.in_ok-child_goes.ensures (omega (arith, some)) c.in_ok-turn.ensures.tells c.in_ok-turn.ensures.left c.if-sides-eq0-2.true

pub returns-then-turn-clause-both : goal.returns-then-turn-clause-both
returns-then-turn-clause-both c sure =
    let some = c.if-sides-eq0.false in
    let others = c.if-sides-eq0-2.false in
    let new : Sides = record { below = c.child_goes.new.side; above = c.itself_goes.new.side } in
    beside_stopped (8 - c.args.depth) c.args.number c.args.asked.now c.args.sides.now c.turns.sides new c.in_ok-turn.turn c.args.space.now c.turns.space c.child_goes.new.space c.itself_goes.new.space
    c.requires.asked c.turns.invariant.0 c.in_ok-child_goes.ensures (omega (arith, some)) c.in_ok-turn.ensures.tells c.in_ok-turn.ensures.left (omega (arith, others)) c.if-turn.true

pub turns-preserved : goal.turns-preserved
turns-preserved c =
    let some = c.if-sides-eq0.false in
    let others = c.if-sides-eq0-2.false in
    let new : Sides = record { below = c.child_goes.new.side; above = c.itself_goes.new.side } in
    let come = c.in_ok-child_goes.ensures in
    let tells = c.in_ok-turn.ensures.tells in
    let takes = tells.takes in
    let sound = goes_sound (8 - c.args.depth) (c.args.number ∷ []) come.own c.turns.space c.child_goes.new.space come.goes c.turns.invariant.1 in (
      beside_more (8 - c.args.depth) c.args.number c.args.asked.now c.args.sides.now c.turns.sides new c.in_ok-turn.turn c.args.space.now c.turns.space c.child_goes.new.space c.itself_goes.new.space
          c.requires.asked c.turns.invariant.0 come (omega (arith, some)) tells c.in_ok-turn.ensures.left (omega (arith, others)),
      goes_sound (8 - c.args.depth) [] takes.own c.child_goes.new.space c.itself_goes.new.space takes.itself sound,
    )
