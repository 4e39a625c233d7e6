use Rattle.std.proofs.Common.{◌-◌, arith}
use Rattle.explain_core.specs.Watch.{kept_of}
use Rattle.explain_core.proofs.Traces.{tells_none}
use Rattle.explain_core.proofs.going.take_told_turn.Goals as goal

pub returns : goal.returns
returns c =
    let late = c.if-asked-number.false in
    let most = c.most_events-most.ensures in
    let early = most.early in
    tells_none (8 - c.args.depth) c.most_events-most.result c.args.left c.args.asked.now c.in_ok-turn.turn (kept_of c.args.kept.now) c.args.space.now c.take_turn.new.space
    most.within (omega (arith, late, early)) c.in_ok-turn.ensures
