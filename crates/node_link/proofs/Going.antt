-- A parcel that has gone over a link.
use Rattle.std.proofs.Common.{◌≡◌, ℕ, suc, ◌+◌, ◌<◌, ◌≤◌, ◌==◌, Bool, true, false, not, List, [], ◌∷◌, ◌++◌, Option, Some, None, cond, refl, sym, ap, subst, ◌∙◌, append_assoc, arith}
use Rattle.std.proofs.lemmas.Bool.Decides.{nat_tests}
use Rattle.std.proofs.lemmas.List.{map-append}
use Rattle.std.specs.Global.{Vec}
use Rattle.bench_model.specs.Generated.{next}
use Rattle.bench_model.specs.Generated as generated
use Rattle.link_model.specs.Carrying.{Carrier, IsCarrierOf, fate_with, has_come, turns, turns_taken, with_one_more}
use Rattle.link_model.specs.Ends.{Sending}
use Rattle.link_model.specs.Link.{Link, Event, offer, answer, receipt, after_all}
use Rattle.link_model.specs.Frame.{no_number}
use Rattle.link_model.proofs.Carrying.{goes_over}
use Rattle.node_link.specs.declared.event.LinkEvent.{LinkEvent}
use Rattle.node_link.specs.declared.event.LinkEvent.TheVariants.{Answer, Receipt}
use Rattle.node_link.specs.Events.{IsLast, bytes_of, event_of, events_of, is_first_turn}

-- the first frame follows one of an earlier parcel, or none
pub first : (carried frames : ℕ) (last : Option (ℕ × List ℕ)) → IsLast carried frames last → is_first_turn carried last ≡ true
first carried frames None is = refl
first carried frames (Some last) is = ap not (other last.0 carried is.1)
  where
    other : (m n : ℕ) → m < n → (m == n) ≡ false
    other m n low = grind (arith, nat_tests)

at_least_one : (left : ℕ) (is_first : Bool) (x : ℕ) → 1 ≤ turns_taken (suc left) is_first x
at_least_one left is_first x = go (has_come (fate_with left (next x)) is_first)
  where
    go : (b : Bool) → 1 ≤ cond b 1 (1 + turns_taken left false (next x))
    go true = omega arith
    go false = omega arith

pub some_turns : (is_first : Bool) (x : ℕ) → 1 ≤ turns_taken 16 is_first x
some_turns is_first x = at_least_one 15 is_first x

pub frame_is : (sender : Sending) (frame : ℕ × List ℕ) (carried : ℕ) (parcel : List ℕ) → sender ≡ record { base = carried; kept = [] } → frame ≡ (sender.base, parcel) → frame ≡ (carried, parcel)
frame_is sender frame carried parcel empty is = is ∙ ap (λ (s : Sending). (s.base, parcel)) empty

pub nothing : (arrived : Option (Vec ℕ)) (parcel : List ℕ) → bytes_of arrived ≡ Some parcel → arrived ≡ None → ⊥
nothing None parcel is none = cc
nothing (Some v) parcel is none = cc

pub something : (arrived : Option (Vec ℕ)) (v : Vec ℕ) (parcel : List ℕ) → bytes_of arrived ≡ Some parcel → arrived ≡ Some v → v.items ≡ parcel
something None v parcel is some = cc
something (Some w) v parcel is some = let same : w ≡ v = cc in let bytes : w.items ≡ parcel = cc in ap (λ (u : Vec ℕ). u.items) (sym same) ∙ bytes

with_receipt_behind : (before : List LinkEvent) (n : ℕ) → events_of ((before ++ Answer ∷ []) ++ Receipt n ∷ []) ≡ events_of before ++ answer ∷ receipt n ∷ []
with_receipt_behind before n = ap events_of (append_assoc before (Answer ∷ []) (Receipt n ∷ [])) ∙ map-append event_of before (Answer ∷ Receipt n ∷ [])

pub link_is : (c : Carrier) (frame : ℕ) (last : Option (ℕ × List ℕ)) (x frames receiver : ℕ) (es : List Event) → frame ≡ c.carried → IsLast c.carried c.frames last
    → x ≡ generated.number c.number (turns_taken 16 (is_first_turn frame last) c.number)
    → frames ≡ c.frames + turns_taken 16 (is_first_turn frame last) c.number
    → es ≡ turns 16 (is_first_turn frame last) frame c.number c.frames
    → receiver ≡ frame + 1
    → record { number = x; carried = receiver; frames = frames; events = es } ≡ with_one_more c
link_is c frame last x frames receiver es numbered is x_is frames_are es_are next =
    let one : is_first_turn frame last ≡ true = ap (λ (n : ℕ). is_first_turn n last) numbered ∙ first c.carried c.frames last is in
    let x_one : x ≡ generated.number c.number (turns_taken 16 true c.number) = x_is ∙ ap (λ (b : Bool). generated.number c.number (turns_taken 16 b c.number)) one in
    let frames_one : frames ≡ c.frames + turns_taken 16 true c.number = frames_are ∙ ap (λ (b : Bool). c.frames + turns_taken 16 b c.number) one in
    let es_one : es ≡ turns 16 true c.carried c.number c.frames = es_are ∙ ap (λ (b : Bool). turns 16 b frame c.number c.frames) one ∙ ap (λ (n : ℕ). turns 16 true n c.number c.frames) numbered in
    let receiver_one : receiver ≡ c.carried + 1 = next ∙ ap (λ (n : ℕ). n + 1) numbered in
    λ i. record { number = x_one i; carried = receiver_one i; frames = frames_one i; events = es_one i }

pub counts : (receiver frames old_receiver old_frames taken own : ℕ) → receiver ≡ own + 1 → own ≡ old_receiver → old_receiver ≤ old_frames → frames ≡ old_frames + taken → 1 ≤ taken
    → (receiver ≤ frames) × (1 ≤ frames) × (own < receiver)
counts receiver frames old_receiver old_frames taken own next same few more some = (omega (arith, next, same, few, more, some), omega (arith, more, some), omega (arith, next))

-- what happened behind the offer, with the receipt
pub all_events : (ended pushed before start : List LinkEvent) (n m : ℕ) (rest : List Event) → ended ≡ pushed ++ Receipt n ∷ [] → pushed ≡ before ++ Answer ∷ [] → start ≡ [] → n ≡ m
    → events_of before ++ answer ∷ receipt m ∷ [] ≡ events_of start ++ rest → events_of ended ≡ rest
all_events ended pushed before start n m rest last behind empty same turned =
    ap events_of (last ∙ ap (λ (xs : List LinkEvent). xs ++ Receipt n ∷ []) behind) ∙ with_receipt_behind before n ∙ ap (λ (k : ℕ). events_of before ++ answer ∷ receipt k ∷ []) same ∙ turned
    ∙ ap (λ (xs : List LinkEvent). events_of xs ++ rest) empty

pub over : (w : Link) (c behind : Carrier) (parcel : List ℕ) → c.carried < no_number → behind ≡ with_one_more c → IsCarrierOf w c
    → IsCarrierOf (after_all (offer parcel ∷ behind.events) w) behind × ((after_all (offer parcel ∷ behind.events) w).sent ≡ w.sent ++ parcel ∷ [])
over w c behind parcel low is start =
    subst (λ (d : Carrier). IsCarrierOf (after_all (offer parcel ∷ d.events) w) d × ((after_all (offer parcel ∷ d.events) w).sent ≡ w.sent ++ parcel ∷ [])) (sym is) (goes_over w c parcel start low)
