use Rattle.std.proofs.Common.{sym, ap, ◌∙◌, subst}
use Rattle.std.specs.Prelude.{IfSome, is_some}
use Rattle.space_model.specs.Sound.{IsSound}
use Rattle.node_places.specs.Places.{all_home}
use Rattle.board.specs.Jobs.{IsNoneOut}
use Rattle.board.specs.Steps.{Meets}
use Rattle.board.specs.Turns.{GoesOnFrom, IsFinished, IsSomeOut}
use Rattle.board.specs.Value.{Shown}
use Rattle.board.proofs.Histories.{legal_sound}
use Rattle.board.proofs.Outs.{empty_none, some_there, none_and_some}
use Rattle.board.proofs.Settling.{idle_settled}
use Rattle.board.proofs.Turns.{finished_goes_none, finished_meets_none, none_taken_before}
use Rattle.board.proofs.board.Board.next_turn.Goals as goal

pub returns-in-Some-clause-over : goal.returns-in-Some-clause-over
returns-in-Some-clause-over c =
    λ finished.
    let meets = subst (λ o. IfSome o (λ p. Meets c.args.self.now p c.meet.new.self)) c.in-Some.is c.in_ok-meet.ensures.some in
    absurd (finished_meets_none c.args.self.now c.meet.new.self c.in-Some.field-0 finished meets)

pub returns-in-Some-2-clause-over : goal.returns-in-Some-2-clause-over
returns-in-Some-2-clause-over c =
    λ finished.
    let quiet = c.in_ok-meet.ensures.none (ap is_some c.in_default.is) in
    let hands = subst (λ o. IfSome o (λ t. GoesOnFrom c.node_of_worker-first.result c.meet.new.self t c.go_on_from.new.self)) c.in-Some-2.is c.in_ok-turn.ensures.some in
    absurd (finished_goes_none hands.node c.meet.new.self c.go_on_from.new.self c.in-Some-2.turn (subst IsFinished (sym quiet.0) finished) hands.goes)

pub returns-then-is_empty-clause-is : goal.returns-then-is_empty-clause-is
returns-then-is_empty-clause-is c =
    let b = c.self.inside in
    let kept = c.self.invariant in
    let now = c.args.self.now in
    let quiet = c.in_ok-meet.ensures.none (ap is_some c.in_default.is) in
    let still = c.in_ok-turn.ensures.none (ap is_some c.in_default-2.is) in
    let same = still.0 ∙ quiet.0 in
    let sound = subst (λ (s : Shown). IsSound s.tree) (c.self.view_is ∙ same) (legal_sound b.history.items b.boot b.tree (all_home b.lists.run.places.nodes) b.lists.run.places kept.legal kept.sound) in
    let none = subst (λ (s : Shown). IsNoneOut s.out) (c.self.view_is ∙ same) (empty_none b.out.slots c.is_empty.result c.is_empty.ensures c.if-is_empty.true) in
    ((none, idle_settled now.tree now.out sound none quiet.1 (none_taken_before now c.meet.new.self quiet.0 still.1)), same)

pub returns-clause-is : goal.returns-clause-is
returns-clause-is c =
    let b = c.self.inside in
    let quiet = c.in_ok-meet.ensures.none (ap is_some c.in_default.is) in
    let still = c.in_ok-turn.ensures.none (ap is_some c.in_default-2.is) in
    let same = still.0 ∙ quiet.0 in
    let some = subst (λ (s : Shown). IsSomeOut s.out) (c.self.view_is ∙ same) (some_there b.out.slots c.is_empty.result c.is_empty.ensures c.if-is_empty.false) in
    ((quiet.1, none_taken_before c.args.self.now c.meet.new.self quiet.0 still.1), some, same)

pub returns-clause-over : goal.returns-clause-over
returns-clause-over c =
    λ finished.
    let b = c.self.inside in
    let quiet = c.in_ok-meet.ensures.none (ap is_some c.in_default.is) in
    let still = c.in_ok-turn.ensures.none (ap is_some c.in_default-2.is) in
    let some = subst (λ (s : Shown). IsSomeOut s.out) (c.self.view_is ∙ (still.0 ∙ quiet.0)) (some_there b.out.slots c.is_empty.result c.is_empty.ensures c.if-is_empty.false) in
    absurd (none_and_some c.args.self.now.out finished.0 some)
