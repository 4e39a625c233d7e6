use Rattle.std.proofs.Common.{◌≡◌, ◌-◌, ◌<◌, true, arith, []}
use Rattle.explain_core.specs.Watch.{kept_of}
use Rattle.explain_core.proofs.Turns.{goes_sound}
use Rattle.explain_core.proofs.Coming.{come_itself, one_turn}
use Rattle.explain_core.proofs.going.go_itself.Goals as goal
use Rattle.explain_core.proofs.going.go_itself.Goals.{then-left-eq0-via-then-left-eq0, then-left-eq0-via-else-left-eq0+then-turn}

pub returns-then-left-eq0 : goal.returns-then-left-eq0
returns-then-left-eq0 c =
    let tells = c.in_ok-turn.ensures in
    let within = tells.takes.within in
    let same = c.from-left.ensures in
    let later = c.turns.left - c.from-left.result in
    let stops : 0 < later → c.in_ok-turn.turn.stopped ≡ true = elim c.then-left-eq0.branch [
      | then-left-eq0-via-then-left-eq0 w ↦ λ more. let none = w.if-left-eq0.true in absurd (omega (arith, more, none))
      | then-left-eq0-via-else-left-eq0+then-turn w ↦ λ more. w.if-turn.true
    ] in
    come_itself (8 - c.args.depth) c.args.asked.now c.args.wanted c.turns.left later c.in_ok-turn.turn (kept_of c.args.kept.now) (kept_of c.turns.kept) (kept_of c.take_told_turn.new.kept) c.args.space.now c.turns.space c.take_told_turn.new.space
    c.requires.within c.turns.invariant.0 tells (omega (arith, within, same)) c.turns.invariant.1 stops

pub turns-preserved : goal.turns-preserved
turns-preserved c =
    let tells = c.in_ok-turn.ensures in
    let takes = tells.takes in
    let within = takes.within in
    let same = c.from-left.ensures in
    let more = c.if-left-eq0.false in
    let fits = c.turns.invariant.2 in (
      one_turn (8 - c.args.depth) c.args.asked.now c.args.wanted c.turns.left (c.turns.left - c.from-left.result) c.in_ok-turn.turn (kept_of c.args.kept.now) (kept_of c.turns.kept) (kept_of c.take_told_turn.new.kept)
          c.args.space.now c.turns.space c.take_told_turn.new.space c.requires.within c.turns.invariant.0 tells (omega (arith, within, same)),
      omega (arith, more),
      omega (arith, fits),
      goes_sound (8 - c.args.depth) [] takes.own c.turns.space c.take_told_turn.new.space takes.itself c.turns.invariant.3,
    )
