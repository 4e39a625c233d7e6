use Rattle.std.proofs.Common.{◌≡◌, None}
use Rattle.board.specs.Names.{named_at}
use Rattle.board.proofs.Ways.{of_err}
use Rattle.board.proofs.starts.keep.Goals as goal

pub returns-else-is_ok : goal.returns-else-is_ok
returns-else-is_ok g c =
    let none : named_at c.reach.new.starts.items c.args.slot ≡ None = of_err c.reach.result _ c.if-is_ok.false c.is_ok.ensures.value c.reach.ensures.none in
    record { here = λ v named. cc; others = λ other ne. c.reach.ensures.same other }
