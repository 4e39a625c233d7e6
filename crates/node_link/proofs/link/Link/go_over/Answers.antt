use Rattle.std.proofs.Common.{ℕ, ◌+◌, List, length, sym, ap, subst, ◌∙◌, arith, Bor}
use Rattle.std.specs.Prelude.{option_map}
use Rattle.link_model.specs.Carrying.{Carrier, turns_taken, with_one_more}
use Rattle.link_model.specs.Ends.{Sending}
use Rattle.node_link.specs.Events.{IsLast, events_of, is_first_turn}
use Rattle.node_link.proofs.Going.{all_events, counts, frame_is, link_is, nothing, some_turns, something}
use Rattle.node_link.proofs.link.Link.go_over.Goals as goal

pub unreachable-requires : goal.unreachable-requires
unreachable-requires c = nothing c.turns.new.self.arrived c.in_ok-frame.frame.1 c.in_ok-turns.ensures.arrived (sym c.take.ensures.value ∙ c.in_default.is)

pub acknowledge-requires-clause-arrived : goal.acknowledge-requires-clause-arrived
acknowledge-requires-clause-arrived c =
    c.in_ok-turns.ensures.receiver ∙ ap (λ (f : ℕ × List ℕ). f.0 + 1) c.in_ok-frame.ensures.frame ∙ sym (ap (λ (s : Sending). s.base + 1) c.in_ok-frame.ensures.sender)

pub acknowledge-requires-clause-kept : goal.acknowledge-requires-clause-kept
acknowledge-requires-clause-kept c = ap (λ (s : Sending). length s.kept) c.in_ok-frame.ensures.sender

pub acknowledge-requires-clause-numbered : goal.acknowledge-requires-clause-numbered
acknowledge-requires-clause-numbered c =
    let next = c.in_ok-turns.ensures.receiver in
    let own = ap (λ (f : ℕ × List ℕ). f.0) (frame_is c.in_ok-sender.sender c.in_ok-frame.frame c.self.inside.receiver c.args.parcel.now (c.in_ok-sender.ensures ∙ c.self.invariant.0) c.in_ok-frame.ensures.frame) in
    let few = c.self.invariant.1 in
    let frames = ap (λ (l : Carrier). l.frames) c.self.view_is in
    let room = c.requires.room in
    omega (arith, next, own, few, frames, room)

pub invariant_of-link : goal.invariant_of-link
invariant_of-link c =
    let own = ap (λ (f : ℕ × List ℕ). f.0) (frame_is c.in_ok-sender.sender c.in_ok-frame.frame c.self.inside.receiver c.args.parcel.now (c.in_ok-sender.ensures ∙ c.self.invariant.0) c.in_ok-frame.ensures.frame) in
    let is_first = is_first_turn c.in_ok-frame.frame.0 (option_map (λ (f : Bor (ℕ × List ℕ)). f.now) c.as_ref.result) in
    let all = counts c.turns.new.self.receiver c.turns.new.self.frames c.self.inside.receiver c.self.inside.frames (turns_taken 16 is_first c.self.inside.number) c.in_ok-frame.frame.0
    c.in_ok-turns.ensures.receiver own c.self.invariant.1 c.in_ok-turns.ensures.frames (some_turns is_first c.self.inside.number) in
    (c.acknowledge.ensures, all.0, (all.1, all.2))

pub returns-clause-parcel : goal.returns-clause-parcel
returns-clause-parcel c =
    something c.turns.new.self.arrived c.in-Some.arrived c.in_ok-frame.frame.1 c.in_ok-turns.ensures.arrived (sym c.take.ensures.value ∙ c.in-Some.is) ∙ ap (λ (f : ℕ × List ℕ). f.1) c.in_ok-frame.ensures.frame

pub returns-clause-link : goal.returns-clause-link
returns-clause-link c =
    let own = ap (λ (f : ℕ × List ℕ). f.0) (frame_is c.in_ok-sender.sender c.in_ok-frame.frame c.self.inside.receiver c.args.parcel.now (c.in_ok-sender.ensures ∙ c.self.invariant.0) c.in_ok-frame.ensures.frame) in
    link_is (record { number = c.self.inside.number; carried = c.self.inside.receiver; frames = c.self.inside.frames; events = events_of c.self.inside.events.items }) c.in_ok-frame.frame.0 (option_map (λ (f : Bor (ℕ × List ℕ)). f.now) c.as_ref.result)
    c.turns.new.self.number c.turns.new.self.frames c.turns.new.self.receiver (events_of c.push-2.new.self.items) own (subst (IsLast c.self.inside.receiver c.self.inside.frames) (sym c.as_ref.ensures.value) c.self.invariant.2)
    c.in_ok-turns.ensures.number c.in_ok-turns.ensures.frames
    (all_events c.push-2.new.self.items c.push.new.self.items c.turns.new.self.events.items c.new.result.items c.number.result c.in_ok-frame.frame.0 _
    c.in_ok-push-2.ensures.items c.in_ok-push.ensures.items c.new.ensures.items c.number.ensures c.in_ok-turns.ensures.events)
    c.in_ok-turns.ensures.receiver
    ∙ ap with_one_more c.self.view_is
