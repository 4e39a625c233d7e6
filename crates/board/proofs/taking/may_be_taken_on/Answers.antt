use Rattle.std.proofs.Common.{sym, ◌∙◌}
use Rattle.board.proofs.taking.may_be_taken_on.Goals as goal

pub returns-clause-yes : goal.returns-clause-yes
returns-clause-yes c = λ is. (sym c.place.ensures.is ∙ c.if-place-node.false, λ out works. c.may_be_taken.ensures.yes is out works)
