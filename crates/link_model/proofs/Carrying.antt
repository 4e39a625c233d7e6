-- A parcel goes over a link: whatever becomes of its frames, it arrives once, and then has its receipt.
use Rattle.std.proofs.Common.{◌≡◌, ℕ, zero, suc, ◌+◌, ◌-◌, ◌<◌, ◌≤◌, ◌==◌, Bool, true, false, not, ◌&&◌, cond, Option, List, [], ◌∷◌, ◌++◌, length, take, drop, Some, None, refl, sym, ap, subst, ◌∙◌, arith, true≢false, nat_lt}
use Rattle.std.proofs.lemmas.Bool.Decides.{nat_tests}
use Rattle.std.proofs.lemmas.List.{length-append, drop_at}
use Rattle.std.specs.Prelude.{slice_get}
use Rattle.bench_model.specs.Generated.{next}
use Rattle.link_model.specs.declared.fate.Fate.{Fate}
use Rattle.link_model.specs.declared.fate.Fate.TheVariants.{Lost, Arrives, ArrivesTwice, EarlierArrives}
use Rattle.link_model.specs.Frame.{no_number, window}
use Rattle.link_model.specs.Link.{Link, Event, offer, send, arrive, answer, receipt, after, after_all}
use Rattle.link_model.specs.Carrying.{most_turns, fate_with, arrivals, has_come, turns, turns_taken, turns_of, turns_taken_of, Carrier, with_one_more, IsCarrierOf}

-- ---- lists

at_end : {A : Type 0} (xs : List A) (x : A) (k : ℕ) → length xs ≡ k → slice_get (xs ++ x ∷ []) k ≡ Some x
at_end [] x k is = subst (λ (i : ℕ). slice_get (x ∷ []) i ≡ Some x) is refl
at_end (y ∷ xs) x zero is = absurd (omega (arith, is))
at_end (y ∷ xs) x (suc k) is = at_end xs x k (omega (arith, is))

before_end : {A : Type 0} (xs : List A) (x y : A) (k : ℕ) → slice_get xs k ≡ Some y → slice_get (xs ++ x ∷ []) k ≡ Some y
before_end [] x y k is = absurd cc
before_end (z ∷ xs) x y zero is = is
before_end (z ∷ xs) x y (suc k) is = before_end xs x y k is

one_longer : {A : Type 0} (xs : List A) (x : A) (k : ℕ) → length xs ≡ k → length (xs ++ x ∷ []) ≡ k + 1
one_longer xs x k is = length-append xs (x ∷ []) ∙ ap (λ (n : ℕ). n + 1) is

-- ---- the way of a parcel, by the link's parts

-- it was offered, behind others that have arrived
abbrev on_way : List (List ℕ) → List ℕ → List ℕ → List ℕ → Link
on_way before parcel fs rs = record { sent = before ++ parcel ∷ []; delivered = before; frames = fs; receipts = rs; base = length before }

-- it has arrived
abbrev come : List (List ℕ) → List ℕ → List ℕ → List ℕ → Link
come before parcel fs rs = record { sent = before ++ parcel ∷ []; delivered = before ++ parcel ∷ []; frames = fs; receipts = rs; base = length before }

-- the last frame: at the first turn that of an earlier parcel, if any, and then one of this parcel
abbrev LastIs : Bool → List ℕ → ℕ → ℕ → Type 0
LastIs true fs frames n = (m : ℕ) → slice_get fs (frames - 1) ≡ Some m → m < n
LastIs false fs frames n = (1 ≤ frames) × (slice_get fs (frames - 1) ≡ Some n)

-- it has its receipt
record HasReceipt (w : Link) (before : List (List ℕ)) (parcel : List ℕ) (count : ℕ) : Type 0 where
  pub sent : w.sent ≡ before ++ parcel ∷ []
  pub delivered : w.delivered ≡ before ++ parcel ∷ []
  pub base : w.base ≡ length before + 1
  pub receipts : length w.receipts ≡ length before + 1
  pub frames : length w.frames ≡ count
  pub earlier : (m : ℕ) → slice_get w.frames (count - 1) ≡ Some m → m < length before + 1

-- ---- its events

sends : (before : List (List ℕ)) (parcel : List ℕ) (fs rs : List ℕ) → after (send (length before)) (on_way before parcel fs rs) ≡ on_way before parcel (fs ++ length before ∷ []) rs
sends before parcel fs rs = ap (λ (b : Bool). cond b (on_way before parcel (fs ++ length before ∷ []) rs) (on_way before parcel fs rs)) (may (length before) (length (before ++ parcel ∷ [])) (one_longer before parcel (length before) refl))
  where
    may : (n m : ℕ) → m ≡ n + 1 → (not (nat_lt n n) && nat_lt n m) ≡ true
    may n m is = let up : n < m = omega (arith, is) in let low : n ≤ n = omega arith in grind (arith, nat_tests)

the_one : (before : List (List ℕ)) (parcel : List ℕ) → take 1 (drop (length before) (before ++ parcel ∷ [])) ≡ parcel ∷ []
the_one before parcel = ap (take 1) (drop_at before (parcel ∷ []) (length before) refl)

equal_number : (n : ℕ) → (n == n) ≡ true
equal_number n = let same : n ≡ n = refl in grind (arith, nat_tests)

-- its own frame arrives
arrives : (before : List (List ℕ)) (parcel : List ℕ) (fs rs : List ℕ) (k : ℕ) → slice_get fs k ≡ Some (length before) → after (arrive k) (on_way before parcel fs rs) ≡ come before parcel fs rs
arrives before parcel fs rs k is = rw (is, equal_number (length before)) (ap (λ (xs : List (List ℕ)). come_with xs) (the_one before parcel))
  where
    come_with : List (List ℕ) → Link
    come_with xs = record { sent = before ++ parcel ∷ []; delivered = before ++ xs; frames = fs; receipts = rs; base = length before }

-- and once more
arrives_again : (before : List (List ℕ)) (parcel : List ℕ) (fs rs : List ℕ) (k : ℕ) → slice_get fs k ≡ Some (length before) → after (arrive k) (come before parcel fs rs) ≡ come before parcel fs rs
arrives_again before parcel fs rs k is = rw (is, other (length before) (length (before ++ parcel ∷ [])) (one_longer before parcel (length before) refl)) refl
  where
    other : (n m : ℕ) → m ≡ n + 1 → (n == m) ≡ false
    other n m up = let apart : n < m = omega (arith, up) in grind (arith, nat_tests)

-- a frame of an earlier parcel does
earlier_arrives : (before : List (List ℕ)) (parcel : List ℕ) (fs rs : List ℕ) (k m : ℕ) → slice_get fs k ≡ Some m → m < length before → after (arrive k) (on_way before parcel fs rs) ≡ on_way before parcel fs rs
earlier_arrives before parcel fs rs k m is low = rw (is, other m (length before) low) refl
  where
    other : (m n : ℕ) → m < n → (m == n) ≡ false
    other m n low = grind (arith, nat_tests)

-- the receipt is sent, and arrives
receives : (before : List (List ℕ)) (parcel : List ℕ) (fs rs : List ℕ) (frames : ℕ) → length rs ≡ length before → length fs ≡ frames → slice_get fs (frames - 1) ≡ Some (length before)
    → HasReceipt (after_all (answer ∷ receipt (length before) ∷ []) (come before parcel fs rs)) before parcel frames
receives before parcel fs rs frames answered sent last =
    let there = at_end rs (length (before ++ parcel ∷ [])) (length before) answered in
    let longer = one_longer before parcel (length before) refl in
    rw there (record {
      sent = refl;
      delivered = refl;
      base = omega (arith, longer);
      receipts = one_longer rs (length (before ++ parcel ∷ [])) (length before) answered;
      frames = sent;
      earlier = λ m is. let same : m ≡ length before = cc in omega (arith, same);
    })

-- ---- turns

module _ (before : List (List ℕ)) (parcel : List ℕ) (rs : List ℕ) (answered : length rs ≡ length before) where
  abbrev n : ℕ
  n = length before

  -- what is behind a turn of this fate, where the turns behind it are as they should be
  by_fate : (fate : Fate) (is_first : Bool) (fs : List ℕ) (frames more : ℕ) (rest : List Event) → length fs ≡ frames → LastIs is_first fs frames n
      → (has_come fate is_first ≡ false → HasReceipt (after_all rest (on_way before parcel (fs ++ n ∷ []) rs)) before parcel (frames + 1 + more))
      → HasReceipt (after_all ((send n ∷ arrivals fate frames) ++ cond (has_come fate is_first) (answer ∷ receipt n ∷ []) rest) (on_way before parcel fs rs)) before parcel (frames + cond (has_come fate is_first) 1 (1 + more))
  by_fate fate is_first fs frames more rest sent last then = go fate is_first last then
    where
      counts : (a b : ℕ) → a ≡ b → HasReceipt (after_all rest (on_way before parcel (fs ++ n ∷ []) rs)) before parcel a → HasReceipt (after_all rest (on_way before parcel (fs ++ n ∷ []) rs)) before parcel b
      counts a b is = subst (λ (k : ℕ). HasReceipt (after_all rest (on_way before parcel (fs ++ n ∷ []) rs)) before parcel k) is

      here : slice_get (fs ++ n ∷ []) frames ≡ Some n
      here = at_end fs n frames sent

      longer : length (fs ++ n ∷ []) ≡ frames + 1
      longer = one_longer fs n frames sent

      last_here : slice_get (fs ++ n ∷ []) (frames + 1 - 1) ≡ Some n
      last_here = let same : frames + 1 - 1 ≡ frames = omega arith in ap (slice_get (fs ++ n ∷ [])) same ∙ here

      got : HasReceipt (after_all (answer ∷ receipt n ∷ []) (come before parcel (fs ++ n ∷ []) rs)) before parcel (frames + 1)
      got = receives before parcel (fs ++ n ∷ []) rs (frames + 1) answered longer last_here

      go : (fate : Fate) (is_first : Bool) → LastIs is_first fs frames n
          → (has_come fate is_first ≡ false → HasReceipt (after_all rest (on_way before parcel (fs ++ n ∷ []) rs)) before parcel (frames + 1 + more))
          → HasReceipt (after_all ((send n ∷ arrivals fate frames) ++ cond (has_come fate is_first) (answer ∷ receipt n ∷ []) rest) (on_way before parcel fs rs)) before parcel (frames + cond (has_come fate is_first) 1 (1 + more))
      go Lost is_first last then = rw (sends before parcel fs rs) (counts (frames + 1 + more) (frames + (1 + more)) (omega arith) (then refl))
      go Arrives is_first last then = rw (sends before parcel fs rs, arrives before parcel (fs ++ n ∷ []) rs frames here) got
      go ArrivesTwice is_first last then = rw (sends before parcel fs rs, arrives before parcel (fs ++ n ∷ []) rs frames here, arrives_again before parcel (fs ++ n ∷ []) rs frames here) got
      go EarlierArrives true last then = by_place frames refl (counts (frames + 1 + more) (frames + (1 + more)) (omega arith) (then refl))
        where
          by_place : (k : ℕ) → frames ≡ k → HasReceipt (after_all rest (on_way before parcel (fs ++ n ∷ []) rs)) before parcel (frames + (1 + more))
              → HasReceipt (after_all ((send n ∷ arrivals EarlierArrives k) ++ rest) (on_way before parcel fs rs)) before parcel (frames + (1 + more))
          by_place zero is rests = rw (sends before parcel fs rs) rests
          by_place (suc k) is rests = by_frame (slice_get fs k) refl
            where
              by_frame : (o : Option ℕ) → slice_get fs k ≡ o → HasReceipt (after_all rest (after (arrive k) (after (send n) (on_way before parcel fs rs)))) before parcel (frames + (1 + more))
              by_frame None none = absurd (nothing fs k (omega (arith, sent, is)) none)
                where
                  nothing : (xs : List ℕ) (i : ℕ) → i < length xs → slice_get xs i ≡ None → ⊥
                  nothing [] i below none = omega (arith, below)
                  nothing (x ∷ xs) zero below none = cc
                  nothing (x ∷ xs) (suc i) below none = nothing xs i (omega (arith, below)) none
              by_frame (Some m) some =
                  let place : frames - 1 ≡ k = omega (arith, is) in
                  let low : m < n = last m (ap (slice_get fs) place ∙ some) in
                  rw (sends before parcel fs rs, earlier_arrives before parcel (fs ++ n ∷ []) rs k m (before_end fs n m k some) low) rests
      go EarlierArrives false last then = by_place frames refl
        where
          by_place : (k : ℕ) → frames ≡ k → HasReceipt (after_all ((send n ∷ arrivals EarlierArrives k) ++ answer ∷ receipt n ∷ []) (on_way before parcel fs rs)) before parcel (frames + 1)
          by_place zero is = absurd (omega (arith, is, last.0))
          by_place (suc k) is =
              let place : frames - 1 ≡ k = omega (arith, is) in
              let there : slice_get fs k ≡ Some n = ap (slice_get fs) (sym place) ∙ last.1 in
              rw (sends before parcel fs rs, arrives before parcel (fs ++ n ∷ []) rs k (before_end fs n n k there)) got

  all_turns : (left : ℕ) (is_first : Bool) (x frames : ℕ) (fs : List ℕ) → length fs ≡ frames → LastIs is_first fs frames n
      → HasReceipt (after_all (turns (suc left) is_first n x frames) (on_way before parcel fs rs)) before parcel (frames + turns_taken (suc left) is_first x)
  all_turns zero is_first x frames fs sent last = by_fate (fate_with 0 (next x)) is_first fs frames 0 [] sent last (λ none. absurd (true≢false none))
  all_turns (suc left) is_first x frames fs sent last = by_fate (fate_with (suc left) (next x)) is_first fs frames (turns_taken (suc left) false (next x)) (turns (suc left) false n (next x) (frames + 1)) sent last
      (λ none. all_turns left false (next x) (frames + 1) (fs ++ n ∷ []) (one_longer fs n frames sent)
      (let same : frames + 1 - 1 ≡ frames = omega arith in (omega arith, ap (slice_get (fs ++ n ∷ [])) same ∙ at_end fs n frames sent)))

-- ---- the whole way

abbrev resting : List (List ℕ) → List ℕ → List ℕ → Link
resting parcels fs rs = record { sent = parcels; delivered = parcels; frames = fs; receipts = rs; base = length parcels }

offers : (parcels : List (List ℕ)) (parcel fs rs : List ℕ) → length parcels < no_number → after (offer parcel) (resting parcels fs rs) ≡ on_way parcels parcel fs rs
offers parcels parcel fs rs few = ap (λ (b : Bool). cond b (on_way parcels parcel fs rs) (resting parcels fs rs)) (may (length parcels) few)
  where
    may : (n : ℕ) → n < no_number → (nat_lt n (n + window) && nat_lt n no_number) ≡ true
    may n low = let room : n < n + window = omega arith in grind (arith, nat_tests)

pub goes_over : (w : Link) (c : Carrier) (parcel : List ℕ) → IsCarrierOf w c → c.carried < no_number
    → IsCarrierOf (after_all (offer parcel ∷ turns_of c) w) (with_one_more c) × ((after_all (offer parcel ∷ turns_of c) w).sent ≡ w.sent ++ parcel ∷ [])
goes_over w c parcel is few = (
  record {
    arrived = came.delivered ∙ sym came.sent;
    carried = ap length came.sent ∙ one_longer w.sent parcel c.carried is.carried;
    base = came.base ∙ ap (λ (n : ℕ). n + 1) is.carried;
    receipts = came.receipts ∙ ap (λ (n : ℕ). n + 1) is.carried;
    frames = came.frames;
    earlier = λ m last. let low = came.earlier m last in let count = is.carried in omega (arith, low, count);
  },
  came.sent,
)
  where
    same : w ≡ resting w.sent w.frames w.receipts
    same = let low : w.base ≡ length w.sent = is.base ∙ sym is.carried in λ i. record { sent = w.sent; delivered = is.arrived i; frames = w.frames; receipts = w.receipts; base = low i }

    numbered : HasReceipt (after_all (turns most_turns true (length w.sent) c.number c.frames) (on_way w.sent parcel w.frames w.receipts)) w.sent parcel (c.frames + turns_taken_of c)
    numbered = all_turns w.sent parcel w.receipts (is.receipts ∙ sym is.carried) 15 true c.number c.frames w.frames is.frames (λ m last. let low = is.earlier m last in let count = is.carried in omega (arith, low, count))

    offered : HasReceipt (after_all (turns_of c) (on_way w.sent parcel w.frames w.receipts)) w.sent parcel (c.frames + turns_taken_of c)
    offered = subst (λ (n : ℕ). HasReceipt (after_all (turns most_turns true n c.number c.frames) (on_way w.sent parcel w.frames w.receipts)) w.sent parcel (c.frames + turns_taken_of c)) is.carried numbered

    came : HasReceipt (after_all (offer parcel ∷ turns_of c) w) w.sent parcel (c.frames + turns_taken_of c)
    came = subst (λ (v : Link). HasReceipt (after_all (turns_of c) v) w.sent parcel (c.frames + turns_taken_of c))
        (sym (ap (after (offer parcel)) same ∙ offers w.sent parcel w.frames w.receipts (let count = is.carried in omega (arith, count, few)))) offered
