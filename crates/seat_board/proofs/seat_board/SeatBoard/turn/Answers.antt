use Rattle.std.proofs.Common.{◌≡◌, sym, ap, ◌∙◌, subst}
use Rattle.ticket_lock.specs.declared.view.View.{View}
use Rattle.ticket_lock.specs.Plays.{IsKnown}
use Rattle.seat_board.specs.declared.known.Known.{Known}
use Rattle.seat_board.specs.Desk.{Desk}
use Rattle.seat_board.specs.Seats.{Fits, after}
use Rattle.seat_board.proofs.Acting.{finds, hands_in, the_turn}
use Rattle.seat_board.proofs.seat_board.SeatBoard.turn.Goals as goal

pub act-turn-requires-clause-turn : goal.act-turn-requires-clause-turn
act-turn-requires-clause-turn g c =
    let b = c.begin.ensures.turn in
    let core = c.args.pass.now.pass.seat.me.0.core in
    let found : IsKnown Fits core b.0 = subst (λ k. IsKnown Fits k b.0) c.begin.ensures.pass.2 b.2 in
    (b.0, b.1, hands_in core c.args.done b.0 c.requires.done (finds core b.0 c.args.pass.now.lives found))

pub end-requires-clause-turn : goal.end-requires-clause-turn
end-requires-clause-turn g c =
    let b = c.begin.ensures.turn in
    let core = c.args.pass.now.pass.seat.me.0.core in
    let w = the_turn core c.args.pass.now.number c.args.done c.act-turn.result.0 c.begin.new.pass.seat.me c.act-turn.new.pass.seat.me c.act-turn.new.pass.seat.id b.0 c.args.pass.now.number_is c.args.pass.now.lives c.requires.done c.begin.ensures.pass.2 b.1 b.2 c.act-turn.ensures.pass.2 c.act-turn.ensures.turn in
    (b.0, w.0, w.1, w.2)

pub invariant_of-pass : goal.invariant_of-pass
invariant_of-pass g c =
    let b = c.begin.ensures.turn in
    let core = c.args.pass.now.pass.seat.me.0.core in
    let w = the_turn core c.args.pass.now.number c.args.done c.act-turn.result.0 c.begin.new.pass.seat.me c.act-turn.new.pass.seat.me c.act-turn.new.pass.seat.id b.0 c.args.pass.now.number_is c.args.pass.now.lives c.requires.done c.begin.ensures.pass.2 b.1 b.2 c.act-turn.ensures.pass.2 c.act-turn.ensures.turn in
    let then : c.end.new.pass.seat.me.0.core ≡ after c.act-turn.new.pass.seat.me.0.core b.0 w.0 = c.end.ensures.core b.0 w.0 w.1 in
    let same : c.act-turn.new.pass.seat.me.0.core ≡ core = ap (λ (v : View Desk Known). v.core) c.act-turn.ensures.pass.2 ∙ c.begin.ensures.pass.2 in
    let idle = c.end.ensures.idle in
    record {
      number_is = c.args.pass.now.number_is ∙ (ap (λ (k : Known). k.number) (sym same) ∙ ap (λ (k : Known). k.number) (sym then));
      given_is = c.args.pass.now.given_is ∙ (ap (λ (k : Known). k.given) (sym same) ∙ ap (λ (k : Known). k.given) (sym then));
      lives = ap (λ (k : Known). k.lives) then ∙ (ap (λ (k : Known). k.lives) same ∙ c.args.pass.now.lives);
      no_ticket = idle.ticket;
      lacks = idle.lacks;
      none = idle.none;
    }

pub returns-clause-turn : goal.returns-clause-turn
returns-clause-turn g c =
    let b = c.begin.ensures.turn in
    let core = c.args.pass.now.pass.seat.me.0.core in
    let w = the_turn core c.args.pass.now.number c.args.done c.act-turn.result.0 c.begin.new.pass.seat.me c.act-turn.new.pass.seat.me c.act-turn.new.pass.seat.id b.0 c.args.pass.now.number_is c.args.pass.now.lives c.requires.done c.begin.ensures.pass.2 b.1 b.2 c.act-turn.ensures.pass.2 c.act-turn.ensures.turn in
    let then : c.end.new.pass.seat.me.0.core ≡ after c.act-turn.new.pass.seat.me.0.core b.0 w.0 = c.end.ensures.core b.0 w.0 w.1 in
    let same : c.act-turn.new.pass.seat.me.0.core ≡ core = ap (λ (v : View Desk Known). v.core) c.act-turn.ensures.pass.2 ∙ c.begin.ensures.pass.2 in
    record {
      before = b.0;
      noted = c.end.ensures.pass.2 ∙ w.1.noted;
      finds = w.4;
      given = w.0;
      does = w.3;
      knows = then ∙ ap (λ k. after k b.0 w.0) same;
    }
