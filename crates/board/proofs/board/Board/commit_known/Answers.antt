use Rattle.std.proofs.Common.{refl, sym, ap, ◌∙◌, subst, true≢false}
use Rattle.board.specs.Jobs.{out_at}
use Rattle.board.specs.Value.{Shown}
use Rattle.board.specs.Steps.{IsStart}
use Rattle.board.proofs.Stale.{ticket_of, no_job, other_ticket, other_start}
use Rattle.board.proofs.board.Board.commit_known.Goals as goal

pub returns-in_default : goal.returns-in_default
returns-in_default c =
    let told = c.ticket_in.ensures ∙ ap (λ (s : Shown). ticket_of (out_at s.out c.args.done.slot)) c.self.view_is in
    no_job c.args.self.now c.args.self.now c.args.done (sym c.in_default.is ∙ told) refl

pub returns-then-ticket-done : goal.returns-then-ticket-done
returns-then-ticket-done c =
    let told = c.ticket_in.ensures ∙ ap (λ (s : Shown). ticket_of (out_at s.out c.args.done.slot)) c.self.view_is in
    other_ticket c.args.self.now c.args.self.now c.args.done c.in-Some.ticket (sym c.in-Some.is ∙ told) c.if-ticket-done.true refl

pub returns : goal.returns
returns c =
    let told = c.ticket_in.ensures ∙ ap (λ (s : Shown). ticket_of (out_at s.out c.args.done.slot)) c.self.view_is in
    other_start c.args.self.now c.forget.new.self c.args.done c.in-Some.ticket (sym c.in-Some.is ∙ told) c.if-ticket-done.false
    (λ o is start.
    true≢false
    (sym (c.is_of_slot.ensures.no o (ap (λ (s : Shown). out_at s.out c.args.done.slot) c.self.view_is ∙ is) (subst (λ (s : Shown). IsStart s.tree o c.args.done) (sym c.self.view_is) start))
    ∙ c.if-is_of_slot.false))
    c.forget.ensures.out c.forget.ensures.others
