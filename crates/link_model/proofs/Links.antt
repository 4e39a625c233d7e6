-- Whatever happens on a link, what was delivered is the beginning of what was sent.
use Rattle.std.proofs.Common.{◌≡◌, ℕ, zero, suc, ◌+◌, ◌≤◌, ◌==◌, Bool, true, false, cond, List, [], ◌∷◌, ◌++◌, length, take, drop, Option, Some, None, refl, sym, ap, ◌∙◌, append_assoc, append-nil, arith, subst}
use Rattle.std.proofs.lemmas.Bool.Decides.{nat_tests}
use Rattle.std.proofs.lemmas.List.{length-append, drop_at}
use Rattle.std.specs.Prelude.{slice_get}
use Rattle.link_model.specs.Link.{Link, Event, offer, send, arrive, answer, receipt, may_offer, may_send, after_frame, after_receipt, after, after_all, at_rest, IsBeginning, IsInOrder}

-- each of these is at most so much
abbrev AreWithin : ℕ → List ℕ → Type 0
AreWithin most [] = Unit {0}
AreWithin most (n ∷ ns) = (n ≤ most) × AreWithin most ns

within_more : (most more : ℕ) (ns : List ℕ) → most ≤ more → AreWithin most ns → AreWithin more ns
within_more most more [] up all = tt
within_more most more (n ∷ ns) up all = (omega (arith, up, all.0), within_more most more ns up all.1)

within_then : (most n : ℕ) (ns : List ℕ) → AreWithin most ns → n ≤ most → AreWithin most (ns ++ n ∷ [])
within_then most n [] all last = (last, tt)
within_then most n (m ∷ ns) all last = (all.0, within_then most n ns all.1 last)

one_within : (most : ℕ) (ns : List ℕ) (k n : ℕ) → AreWithin most ns → slice_get ns k ≡ Some n → n ≤ most
one_within most [] k n all is = cc
one_within most (m ∷ ns) zero n all is = let same : m ≡ n = cc in subst (λ (i : ℕ). i ≤ most) same all.0
one_within most (m ∷ ns) (suc k) n all is = one_within most ns k n all.1 is

-- what holds behind each event
record Holds (w : Link) : Type 0 where
  pub delivered : IsBeginning w.delivered w.sent
  pub receipts : AreWithin (length w.delivered) w.receipts
  pub base : w.base ≤ length w.delivered

at_rest_holds : (parcels : List (List ℕ)) → Holds (at_rest parcels)
at_rest_holds parcels = record { delivered = ([], sym (append-nil parcels)); receipts = tt; base = omega arith }

offered : (b : Bool) (parcel : List ℕ) (w : Link) → Holds w → Holds (cond b (record w { sent = w.sent ++ parcel ∷ [] }) w)
offered true parcel w h = record {
  delivered = (h.delivered.0 ++ parcel ∷ [], ap (λ (xs : List (List ℕ)). xs ++ parcel ∷ []) h.delivered.1 ∙ append_assoc w.delivered h.delivered.0 (parcel ∷ []));
  receipts = h.receipts;
  base = h.base;
}
offered false parcel w h = h

framed : (b : Bool) (n : ℕ) (w : Link) → Holds w → Holds (cond b (record w { frames = w.frames ++ n ∷ [] }) w)
framed true n w h = record { delivered = h.delivered; receipts = h.receipts; base = h.base }
framed false n w h = h

-- one parcel more of those that are left
one_more : (w : Link) (rest : List (List ℕ)) → w.sent ≡ w.delivered ++ rest → AreWithin (length w.delivered) w.receipts → w.base ≤ length w.delivered → Holds (record w { delivered = w.delivered ++ take 1 rest })
one_more w [] is all low =
    let same : w.delivered ++ [] ≡ w.delivered = append-nil w.delivered in
    record {
      delivered = ([], is ∙ sym (append-nil (w.delivered ++ [])));
      receipts = subst (λ (xs : List (List ℕ)). AreWithin (length xs) w.receipts) (sym same) all;
      base = subst (λ (xs : List (List ℕ)). w.base ≤ length xs) (sym same) low;
    }
one_more w (p ∷ rest) is all low =
    let longer : length (w.delivered ++ p ∷ []) ≡ length w.delivered + 1 = length-append w.delivered (p ∷ []) in
    record {
      delivered = (rest, is ∙ sym (append_assoc w.delivered (p ∷ []) rest));
      receipts = within_more (length w.delivered) (length (w.delivered ++ p ∷ [])) w.receipts (omega (arith, longer)) all;
      base = omega (arith, longer, low);
    }

arrived : (o : Option ℕ) (w : Link) → Holds w → Holds (after_frame o w)
arrived None w h = h
arrived (Some n) w h = go (n == length w.delivered) refl
  where
    go : (b : Bool) → (n == length w.delivered) ≡ b → Holds (cond b (record w { delivered = w.delivered ++ take 1 (drop n w.sent) }) w)
    go true is =
        let number : n ≡ length w.delivered = grind (arith, nat_tests) in
        let left : drop n w.sent ≡ h.delivered.0 = ap (λ (k : ℕ). drop k w.sent) number ∙ ap (drop (length w.delivered)) h.delivered.1 ∙ drop_at w.delivered h.delivered.0 (length w.delivered) refl in
        subst (λ (xs : List (List ℕ)). Holds (record w { delivered = w.delivered ++ take 1 xs })) (sym left) (one_more w h.delivered.0 h.delivered.1 h.receipts h.base)
    go false is = h

received : (o : Option ℕ) (w : Link) → ((n : ℕ) → o ≡ Some n → n ≤ length w.delivered) → Holds w → Holds (after_receipt o w)
received None w within h = h
received (Some n) w within h = record { delivered = h.delivered; receipts = h.receipts; base = omega (arith, within n refl, h.base) }

event_holds : (e : Event) (w : Link) → Holds w → Holds (after e w)
event_holds (offer parcel) w h = offered (may_offer w) parcel w h
event_holds (send n) w h = framed (may_send n w) n w h
event_holds (arrive k) w h = arrived (slice_get w.frames k) w h
event_holds answer w h = record { delivered = h.delivered; receipts = within_then (length w.delivered) (length w.delivered) w.receipts h.receipts (omega arith); base = h.base }
event_holds (receipt k) w h = received (slice_get w.receipts k) w (λ n is. one_within (length w.delivered) w.receipts k n h.receipts is) h

all_hold : (es : List Event) (w : Link) → Holds w → Holds (after_all es w)
all_hold [] w h = h
all_hold (e ∷ es) w h = all_hold es (after e w) (event_holds e w h)

pub in_order : (parcels : List (List ℕ)) (es : List Event) → IsInOrder (after_all es (at_rest parcels))
in_order parcels es = let h = all_hold es (at_rest parcels) (at_rest_holds parcels) in record { delivered = h.delivered; base = h.base }

pub in_parts : (before behind : List Event) (w : Link) → after_all (before ++ behind) w ≡ after_all behind (after_all before w)
in_parts [] behind w = refl
in_parts (e ∷ before) behind w = in_parts before behind (after e w)
