use Rattle.std.proofs.Common.{ap, subst}
use Rattle.std.specs.Prelude.{is_some}
use Rattle.std.proofs.lemmas.Result.{IfOk-weaker}
use Rattle.board.specs.Turns.{NoneAmong}
use Rattle.board.proofs.Rings.{behind_first}
use Rattle.board.proofs.Ways.{if_some_weaker}
use Rattle.board.proofs.board.Board.go_on_from.Goals as goal

pub returns-clause-some : goal.returns-clause-some
returns-clause-some c =
    let now = c.args.self.now in
    let first = c.args.first in
    let still = c.in_ok-turn.ensures.none (ap is_some c.in_default.is) in
    IfOk-weaker c.go_on_among-2.result _ _
    (λ o some. if_some_weaker o _ _
    (λ job among. behind_first first now c.go_on_among.new.self c.go_on_among-2.new.self job c.requires c.places_are_nodes.ensures still.0 (subst (λ n. NoneAmong now first n) c.nodes-nodes.ensures.is still.1) among) some)
    c.go_on_among-2.ensures.some
