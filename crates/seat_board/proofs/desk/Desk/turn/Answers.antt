use Rattle.std.proofs.Common.{subst}
use Rattle.std.specs.Prelude.{IfOk, OnErr}
use Rattle.seat_board.specs.Desk.{Desk, IsSeatTurn, IsRefused, cut}
use Rattle.seat_board.proofs.Acting.{desk_turn}
use Rattle.seat_board.proofs.desk.Desk.turn.Goals as goal

pub invariant_of-self : goal.invariant_of-self
invariant_of-self c =
    let b = c.self.inside in
    (desk_turn c.args.seat c.args.done b.board c.act-turn.new.board b.turns.items c.act-turn.new.turns.items b.told c.told_of-told.result c.act-turn.result c.self.invariant c.told_of-told.ensures c.act-turn.ensures.ok c.act-turn.ensures.err).2

pub returns-clause-ok : goal.returns-clause-ok
returns-clause-ok c =
    let b = c.self.inside in
    subst (λ (s : Desk). IfOk c.act-turn.result (λ t. IsSeatTurn c.args.seat c.args.done s t (record { board = c.act-turn.new.board; log = cut c.act-turn.new.board.history c.act-turn.new.turns.items; told = c.told_of-told.result }))) c.self.view_is
    (desk_turn c.args.seat c.args.done b.board c.act-turn.new.board b.turns.items c.act-turn.new.turns.items b.told c.told_of-told.result c.act-turn.result c.self.invariant c.told_of-told.ensures c.act-turn.ensures.ok c.act-turn.ensures.err).0

pub returns-clause-err : goal.returns-clause-err
returns-clause-err c =
    let b = c.self.inside in
    subst (λ (s : Desk). OnErr c.act-turn.result (IsRefused c.args.done s (record { board = c.act-turn.new.board; log = cut c.act-turn.new.board.history c.act-turn.new.turns.items; told = c.told_of-told.result }))) c.self.view_is
    (desk_turn c.args.seat c.args.done b.board c.act-turn.new.board b.turns.items c.act-turn.new.turns.items b.told c.told_of-told.result c.act-turn.result c.self.invariant c.told_of-told.ensures c.act-turn.ensures.ok c.act-turn.ensures.err).1
