use Rattle.std.proofs.Common.{sym, subst}
use Rattle.board.specs.Jobs.{IsNoneOut}
use Rattle.board.specs.Value.{Shown}
use Rattle.board.proofs.Outs.{none_is_empty}
use Rattle.board.proofs.board.Board.finished.Goals as goal

pub returns-else-is_empty-clause-no : goal.returns-else-is_empty-clause-no
returns-else-is_empty-clause-no c =
    λ none settled. none_is_empty c.self.inside.out.slots c.is_empty.result c.is_empty.ensures (subst (λ (b : Shown). IsNoneOut b.out) (sym c.self.view_is) none)
