-- What each method does to its end is what its event does to the link.
use Rattle.std.proofs.Common.{◌≡◌, ℕ, zero, suc, ◌+◌, ◌-◌, ◌≤◌, ◌<◌, ◌==◌, Bool, true, false, not, ◌&&◌, cond, ltb, List, [], ◌∷◌, ◌++◌, length, take, drop, Option, Some, None, Ok, refl, sym, ap, subst, ◌∙◌, append_assoc, append-nil, arith, nat_lt}
use Rattle.std.specs.Int.{w64}
use Rattle.std.specs.Prelude.{max, option_map, slice_get, is_some, if◌then◌else◌}
use Rattle.std.proofs.lemmas.Bool.{ltb-false}
use Rattle.std.proofs.lemmas.Bool.Decides.{nat_tests}
use Rattle.std.proofs.lemmas.List.{length-append, take-append-drop, length-take}
use Rattle.link_model.specs.declared.error.FrameErrorKind.TheVariants.{Ahead}
use Rattle.link_model.specs.Frame.{no_number, window, receipt_mark, data_bytes}
use Rattle.link_model.specs.Reading.{mark_at, number_at, receipt_number_at, rest_at, receipt_of, fault}
use Rattle.link_model.specs.Link.{Link, offer, send, arrive, receipt, may_offer, may_send, after}
use Rattle.link_model.specs.Ends.{Sending, IsSenderOf, offered_to, with_parcel, frame_at, with_receipt, taken_at, one_of}
use Rattle.link_model.proofs.Fields.{bind_ok, ok_is}

-- how many parcels were sent
all_sent : (w : Link) (s : Sending) → IsSenderOf w s → length w.sent ≡ offered_to s
all_sent w s is = ap length is.sent ∙ length-append is.before s.kept ∙ ap (λ n. n + length s.kept) is.counted

-- ---- offers

offer_goes : (w : Link) (s : Sending) (parcel : List ℕ) → IsSenderOf w s → may_offer w ≡ true → IsSenderOf (after (offer parcel) w) (with_parcel parcel s)
offer_goes w s parcel is may = rw may (record {
  base = is.base;
  before = is.before;
  counted = is.counted;
  sent = ap (λ (xs : List (List ℕ)). xs ++ parcel ∷ []) is.sent ∙ append_assoc is.before s.kept (parcel ∷ []);
})

offer_stops : (w : Link) (s : Sending) (parcel : List ℕ) → IsSenderOf w s → may_offer w ≡ false → IsSenderOf (after (offer parcel) w) s
offer_stops w s parcel is may = rw may is

-- a parcel that is taken
pub offer_taken : (w : Link) (s : Sending) (parcel : List ℕ) → IsSenderOf w s → length s.kept < window → offered_to s < no_number → IsSenderOf (after (offer parcel) w) (with_parcel parcel s)
offer_taken w s parcel is few more = offer_goes w s parcel is (both (length w.sent) w.base (all_sent w s is) is.base)
  where
    both : (n base : ℕ) → n ≡ offered_to s → base ≡ s.base → (nat_lt n (base + window) && nat_lt n no_number) ≡ true
    both n base sent from =
        let within : n < base + window = omega (arith, sent, from, few) in
        let numbered : n < no_number = omega (arith, sent, more) in
        grind (arith, nat_tests)

-- and one that is not
pub offer_full : (w : Link) (s : Sending) (parcel : List ℕ) → IsSenderOf w s → window ≤ length s.kept → IsSenderOf (after (offer parcel) w) s
offer_full w s parcel is full = offer_stops w s parcel is (none (length w.sent) w.base (all_sent w s is) is.base)
  where
    none : (n base : ℕ) → n ≡ offered_to s → base ≡ s.base → (nat_lt n (base + window) && nat_lt n no_number) ≡ false
    none n base sent from = let past : base + window ≤ n = omega (arith, sent, from, full) in grind (arith, nat_tests)

pub offer_spent : (w : Link) (s : Sending) (parcel : List ℕ) → IsSenderOf w s → offered_to s ≡ no_number → IsSenderOf (after (offer parcel) w) s
offer_spent w s parcel is spent = offer_stops w s parcel is (none (length w.sent) (w.base + window) (all_sent w s is ∙ spent))
  where
    none : (n most : ℕ) → n ≡ no_number → (nat_lt n most && nat_lt n no_number) ≡ false
    none n most is = second (nat_lt n most) (nat_lt n no_number) (grind (arith, nat_tests))
      where
        second : (b c : Bool) → c ≡ false → (b && c) ≡ false
        second true c h = h
        second false c h = refl

-- ---- frames that are sent

-- a place in a list is below its end
place : {A : Type 0} (xs : List A) (k : ℕ) (x : A) → slice_get xs k ≡ Some x → k < length xs
place [] k x is = cc
place (y ∷ xs) zero x is = omega arith
place (y ∷ xs) (suc k) x is = let below = place xs k x is in omega (arith, below)

past : {A : Type 0} (xs : List A) (k : ℕ) → slice_get xs k ≡ None → length xs ≤ k
past [] k is = omega arith
past (y ∷ xs) zero is = cc
past (y ∷ xs) (suc k) is = let above = past xs k is in omega (arith, above)

pub send_is : (w : Link) (s : Sending) (n : ℕ) → IsSenderOf w s → (after (send n) w).frames ≡ w.frames ++ (if is_some (frame_at n s) then n ∷ [] else [])
send_is w s n is = go (nat_lt n s.base) (slice_get s.kept (n - s.base)) refl refl
  where
    sent : (b : Bool) → may_send n w ≡ b → (cond b (record w { frames = w.frames ++ n ∷ [] }) w).frames ≡ (after (send n) w).frames
    sent b may = rw may refl

    below : nat_lt n s.base ≡ true → may_send n w ≡ false
    below under_base = let low : n < w.base = grind (arith, nat_tests, is.base) in grind (arith, nat_tests)

    go : (b : Bool) (o : Option (List ℕ)) → nat_lt n s.base ≡ b → slice_get s.kept (n - s.base) ≡ o
        → (after (send n) w).frames ≡ w.frames ++ (if is_some (option_map (data_bytes n) (if nat_lt n s.base then None else slice_get s.kept (n - s.base))) then n ∷ [] else [])
    go true o low at = rw low (sym (sent false (below low)) ∙ sym (append-nil w.frames))
    go false None low at =
        let high : s.base ≤ n = grind (arith, nat_tests) in
        let beyond : length s.kept ≤ n - s.base = past s.kept (n - s.base) at in
        let total = all_sent w s is in
        let from = is.base in
        let out : offered_to s ≤ n = omega (arith, beyond, high) in
        let unsent : may_send n w ≡ false = stops (length w.sent) (not (nat_lt n w.base)) (omega (arith, total, out)) in
        rw (low, at) (sym (sent false unsent) ∙ sym (append-nil w.frames))
      where
        stops : (m : ℕ) (b : Bool) → m ≤ n → (b && nat_lt n m) ≡ false
        stops m true le = grind (arith, nat_tests)
        stops m false le = refl
    go false (Some parcel) low at =
        let high : s.base ≤ n = grind (arith, nat_tests) in
        let within : n - s.base < length s.kept = place s.kept (n - s.base) parcel at in
        let goes : may_send n w ≡ true = both (length w.sent) w.base (all_sent w s is) is.base within high in
        rw (low, at) (sym (sent true goes))
      where
        both : (m base : ℕ) → m ≡ offered_to s → base ≡ s.base → n - s.base < length s.kept → s.base ≤ n → (not (nat_lt n base) && nat_lt n m) ≡ true
        both m base total from within high =
            let end : n < m = omega (arith, total, within, high) in
            let start : base ≤ n = omega (arith, from, high) in
            grind (arith, nat_tests)

-- ---- receipts that come

-- the number of a receipt that can be read is at most that of the parcels that were offered
pub receipt_within : (offered n : ℕ) (bytes : List ℕ) → receipt_of offered bytes ≡ Ok n → n ≤ offered
unfolding receipt_of
receipt_within offered n bytes e =
    let m = bind_ok (mark_at receipt_mark 0 bytes) _ n e in
    let k = bind_ok (receipt_number_at offered 4 m.0) _ n m.2 in
    let r = bind_ok (rest_at 0 12 k.0.1) _ n k.2 in
    let same : k.0.0 ≡ n = ok_is k.0.0 n r.2 in
    subst (λ (i : ℕ). i ≤ offered) same (numbered m.0 k.0 k.1)
  where
    guarded : (b : Bool) (x y : ℕ × List ℕ) → ltb offered x.0 ≡ b → cond b (fault {A = ℕ × List ℕ} 4 Ahead) (Ok x) ≡ Ok y → y.0 ≤ offered
    guarded true x y long is = absurd cc
    guarded false x y long is = subst (λ (z : ℕ × List ℕ). z.0 ≤ offered) (ok_is x y is) (ltb-false _ _ long)

    numbered : (bytes : List ℕ) (y : ℕ × List ℕ) → receipt_number_at offered 4 bytes ≡ Ok y → y.0 ≤ offered
    numbered bytes y is = let n = bind_ok (number_at w64 4 bytes) (λ (x : ℕ × List ℕ). cond (ltb offered x.0) (fault {A = ℕ × List ℕ} 4 Ahead) (Ok x)) y is in guarded (ltb offered n.0.0) n.0 y refl n.2

pub receipt_taken : (w : Link) (s : Sending) (k n : ℕ) → IsSenderOf w s → n ≤ offered_to s → slice_get w.receipts k ≡ Some n → IsSenderOf (after (receipt k) w) (with_receipt n s)
receipt_taken w s k n is within came = rw came (record {
  base = ap (λ (b : ℕ). max b n) is.base;
  before = is.before ++ take (n - s.base) s.kept;
  counted =
      let here = is.counted in
      let parts = length-append is.before (take (n - s.base) s.kept) in
      let front = length-take (n - s.base) s.kept in
      omega (arith, here, parts, front, within);
  sent =
      is.sent ∙ ap (λ (xs : List (List ℕ)). is.before ++ xs) (sym (take-append-drop (n - s.base) s.kept)) ∙ sym (append_assoc is.before (take (n - s.base) s.kept) (drop (n - s.base) s.kept));
})

-- ---- frames that arrive

pub arrive_is : (w : Link) (k n awaited : ℕ) (parcel : List ℕ) → length w.delivered ≡ awaited → slice_get w.frames k ≡ Some n → take 1 (drop n w.sent) ≡ parcel ∷ []
    → (after (arrive k) w).delivered ≡ w.delivered ++ one_of (taken_at awaited (n, parcel))
arrive_is w k n awaited parcel here came bytes = rw came (go (n == length w.delivered) refl)
  where
    go : (b : Bool) → (n == length w.delivered) ≡ b → (cond b (record w { delivered = w.delivered ++ take 1 (drop n w.sent) }) w).delivered ≡ w.delivered ++ one_of (taken_at awaited (n, parcel))
    go true is =
        let same : (n == awaited) ≡ true = ap (λ (m : ℕ). n == m) (sym here) ∙ is in
        rw same (ap (λ (xs : List (List ℕ)). w.delivered ++ xs) bytes)
    go false is =
        let other : (n == awaited) ≡ false = ap (λ (m : ℕ). n == m) (sym here) ∙ is in
        rw other (sym (append-nil w.delivered))
