use Rattle.std.proofs.Common.{subst, arith}
use Rattle.path_set.specs.Paths.{Has}
use Rattle.board.proofs.Ways.{one_longer, whole_way}
use Rattle.board.proofs.listing.put_way.Goals as goal

pub loop-length-preserved : goal.loop-length-preserved
loop-length-preserved c =
    let so_far = c.loop-length.invariant in
    let above = c.in_ok-above.ensures in
    let q = c.args.path.now.items in
    let n = c.loop-length.length in (
      λ p has. c.insert.ensures.others p (so_far.0 p has),
      one_longer (Has c.loop-length.paths) (Has c.insert.new.self) q n so_far.1 c.insert.ensures.others (subst (Has c.insert.new.self) above c.in_ok-insert.ensures.there),
    )

pub returns-clause-way : goal.returns-clause-way
returns-clause-way c =
    let so_far = c.loop-length.invariant in
    let q = c.args.path.now.items in
    let n = c.loop-length.length in
    let end = c.len-length-end.ensures.value in
    let past = c.loop-length-test.false in
    whole_way (Has c.loop-length.paths) q n (omega (arith, end, past)) so_far.1
