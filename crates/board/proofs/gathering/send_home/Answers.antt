use Rattle.std.proofs.Common.{◌∙◌, arith}
use Rattle.board.proofs.Sent.{all_away, one_more_away}
use Rattle.board.proofs.gathering.send_home.Goals as goal

pub loop-index-preserved : goal.loop-index-preserved
loop-index-preserved c =
    let so_far = c.loop-index.invariant in
    let there = c.in_ok-send_child_home.ensures.there in (
      c.send_child_home.ensures.same ∙ so_far.0,
      c.send_child_home.ensures.nodes ∙ so_far.1,
      one_more_away c.args.places.now c.args.path.now.items c.args.all.now c.loop-index.index c.get-awaited.result c.loop-index.away c.send_child_home.new.away c.get-awaited.ensures so_far.2 c.send_child_home.ensures.more c.send_child_home.ensures.only there,
    )

pub returns-clause-away : goal.returns-clause-away
returns-clause-away c =
    let end = c.len-index-end.ensures in
    let past = c.loop-index-test.false in
    all_away c.args.places.now c.args.path.now.items c.args.all.now c.loop-index.index c.loop-index.away (omega (arith, end, past)) c.loop-index.invariant.2
