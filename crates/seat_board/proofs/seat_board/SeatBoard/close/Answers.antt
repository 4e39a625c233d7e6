use Rattle.std.proofs.Common.{◌≡◌, Some, sym, ap, ◌∙◌, subst}
use Rattle.std.specs.List.{All}
use Rattle.space_model.specs.Space.{is_settled}
use Rattle.seat_board.specs.Held.{Ended}
use Rattle.seat_board.specs.Desk.{Desk, cut, history_of, turns_of}
use Rattle.seat_board.proofs.Logs.{cut_whole}
use Rattle.seat_board.proofs.Joins.{closes_fresh, closes_once, is_last}
use Rattle.seat_board.proofs.Acting.{closes}
use Rattle.seat_board.proofs.seat_board.SeatBoard.close.Goals as goal

pub close-requires-clause-last : goal.close-requires-clause-last
close-requires-clause-last c =
    let p = c.args.pass in
    (record { ticket = p.no_ticket; lacks = p.lacks; none = p.none }, is_last p.pass.seat.id p.pass.seat.me.0.core c.requires.first.0 p.lives c.requires.first.1)

pub returns-clause-boot : goal.returns-clause-boot
returns-clause-boot c =
    let f = closes c.args.pass.pass.seat.me.0.core c.close.result c.requires.first.0 c.args.pass.lives c.close.ensures in
    let boot = f.0.boot in
    let b = c.board.view_is in (
      boot.0 ∙ ap Some (ap (λ (d : Desk). (let x = d.board in x.boot)) (sym b) ∙ sym c.close-2.ensures.boot),
      boot.1 ∙ (ap (λ (d : Desk). (let x = d.board in let places = x.places in places.nodes)) (sym b) ∙ sym c.close-2.ensures.nodes),
    )

pub returns-clause-log : goal.returns-clause-log
returns-clause-log c = ap (λ h. history_of (cut h c.board.inside.turns.items)) c.close-2.ensures.history ∙ (cut_whole c.board.inside.board.history c.board.inside.turns.items c.board.invariant ∙ sym c.close-2.ensures.history)

pub returns-clause-once : goal.returns-clause-once
returns-clause-once c = closes_once c.close.result c.args.pass.pass.seat.me.0.core c.requires.first.0 c.args.pass.lives c.close.ensures c.requires.first.1

pub returns-clause-fresh : goal.returns-clause-fresh
returns-clause-fresh c n le =
    ap (λ h. turns_of n (cut h c.board.inside.turns.items)) c.close-2.ensures.history
    ∙ (ap (λ (d : Desk). turns_of n d.log) c.board.view_is ∙ closes_fresh c.close.result c.args.pass.pass.seat.me.0.core c.requires.first.0 c.args.pass.lives c.close.ensures n le)

pub returns-clause-turns : goal.returns-clause-turns
returns-clause-turns c =
    let f = closes c.args.pass.pass.seat.me.0.core c.close.result c.requires.first.0 c.args.pass.lives c.close.ensures in
    f.1 ∙ (ap (λ (d : Desk). turns_of 0 d.log) (sym c.board.view_is) ∙ ap (λ h. turns_of 0 (cut h c.board.inside.turns.items)) (sym c.close-2.ensures.history))

pub returns-clause-ended : goal.returns-clause-ended
returns-clause-ended c =
    let f = closes c.args.pass.pass.seat.me.0.core c.close.result c.requires.first.0 c.args.pass.lives c.close.ensures in
    let log : (let d = c.close.result in d.log) ≡ cut c.close-2.result.history.items c.board.inside.turns.items = ap (λ (d : Desk). d.log) (sym c.board.view_is) ∙ ap (λ h. cut h c.board.inside.turns.items) (sym c.close-2.ensures.history) in
    subst (λ l. All (λ (e : Ended). e.turns ≡ turns_of e.number l) (let k = c.args.pass.pass.seat.me.0.core in k.ended)) log f.0.ended

pub returns-clause-over : goal.returns-clause-over
returns-clause-over c over =
    let f = closes c.args.pass.pass.seat.me.0.core c.close.result c.requires.first.0 c.args.pass.lives c.close.ensures in
    let done = f.0.over over in
    ap is_settled c.close-2.ensures.tree ∙ (ap (λ (d : Desk). is_settled (let x = d.board in x.tree)) c.board.view_is ∙ done.1)
