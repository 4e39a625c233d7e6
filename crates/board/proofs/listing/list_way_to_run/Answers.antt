use Rattle.std.proofs.Common.{◌∙◌, subst, arith}
use Rattle.board.specs.Runs.{HasRun}
use Rattle.board.proofs.ByNode.{still_run}
use Rattle.board.proofs.Ways.{one_longer, whole_way}
use Rattle.board.proofs.listing.list_way_to_run.Goals as goal

pub loop-length-preserved : goal.loop-length-preserved
loop-length-preserved c =
    let so_far = c.loop-length.invariant in
    let above = c.in_ok-above.ensures in
    let q = c.args.path.now.items in
    let n = c.loop-length.length in (
      c.list.ensures.places ∙ so_far.0,
      λ node p has. c.list.ensures.all node p (so_far.1 node p has),
      one_longer (HasRun c.loop-length.run) (HasRun c.list.new.self) q n so_far.2 (still_run c.loop-length.run c.list.new.self c.list.ensures.places c.list.ensures.all) (subst (HasRun c.list.new.self) above c.in_ok-list.ensures.there),
    )

pub returns-clause-way : goal.returns-clause-way
returns-clause-way c =
    let so_far = c.loop-length.invariant in
    let q = c.args.path.now.items in
    let n = c.loop-length.length in
    let end = c.len-length-end.ensures.value in
    let past = c.loop-length-test.false in
    whole_way (HasRun c.loop-length.run) q n (omega (arith, end, past)) so_far.2
