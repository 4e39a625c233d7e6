use Rattle.std.proofs.Common.{◌<◌, arith, subst}
use Rattle.board.specs.Value.{Shown}
use Rattle.board.specs.Turns.{accepted}
use Rattle.board.proofs.board.Board.are_few.Goals as goal

pub returns : goal.returns
returns c =
    let b = c.self.inside in
    let few = c.self.invariant.counted in
    let len = c.len-entries.ensures in
    let fits = c.len-entries.type_inv in
    let small : b.counts.taken < 18446744073709551616 = omega (arith, few, len, fits, b.history.ok.0) in
    subst (λ (b : Shown). accepted b < 18446744073709551616) c.self.view_is small
