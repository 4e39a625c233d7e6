use Rattle.std.proofs.Common.{◌+◌, arith, take, ◌∙◌}
use Rattle.space_model.specs.Meeting.{awaits}
use Rattle.path_set.specs.Paths.{Has}
use Rattle.board.specs.Runs.{HasAtHome}
use Rattle.board.proofs.ByNode.{still_home}
use Rattle.board.proofs.Ways.{next_awaited, one_more_awaited, awaited_end}
use Rattle.board.proofs.listing.list_awaited.Goals as goal

pub loop-index-preserved : goal.loop-index-preserved
loop-index-preserved c =
    let so_far = c.loop-index.invariant in
    let there = c.in_ok-list_child.ensures.there in
    let all = c.awaits-all.result in
    let i = c.loop-index.index in
    let a = c.get-awaited.result in
    let q = c.args.path.now.items in
    let more = next_awaited all i a c.get-awaited.ensures in (
      c.list_child.ensures.places ∙ so_far.0,
      λ node p has. c.list_child.ensures.run node p (so_far.1 node p has),
      λ p has. c.list_child.ensures.calls p (so_far.2 p has),
      one_more_awaited (HasAtHome c.loop-index.run) (HasAtHome c.list_child.new.run) (take i all) (take (i + 1) all) a q more so_far.3 (still_home c.loop-index.run c.list_child.new.run c.list_child.ensures.places c.list_child.ensures.run) (λ short. (there short).0),
      one_more_awaited (Has c.loop-index.calls) (Has c.list_child.new.calls) (take i all) (take (i + 1) all) a q more so_far.4 c.list_child.ensures.calls (λ short. (there short).1),
    )

pub returns-clause-awaited : goal.returns-clause-awaited
returns-clause-awaited c =
    let so_far = c.loop-index.invariant in
    let all = c.awaits-all.result in
    let i = c.loop-index.index in
    let q = c.args.path.now.items in
    let end = c.len-index-end.ensures in
    let past = c.loop-index-test.false in
    let named = c.awaits-all.ensures in
    (awaited_end (HasAtHome c.loop-index.run) all (awaits c.args.call) q i so_far.3 (omega (arith, end, past)) named, awaited_end (Has c.loop-index.calls) all (awaits c.args.call) q i so_far.4 (omega (arith, end, past)) named)
