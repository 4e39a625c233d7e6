-- Logs of turns, and the histories that they cut.
use Rattle.std.proofs.Common.{◌≡◌, ◌≢◌, ℕ, zero, suc, ◌+◌, ◌≤◌, ◌<◌, ◌==◌, Bool, true, false, List, [], ◌∷◌, ◌++◌, length, take, drop, if◌then◌else◌, cond, ◌⊎◌, inl, inr, refl, sym, ap, ◌∙◌, arith}
use Rattle.std.proofs.lemmas.Bool.{cases_lt}
use Rattle.std.proofs.lemmas.Bool.Decides.{nat_tests}
use Rattle.std.proofs.lemmas.List.Elements.{All-nil, All-cons}
use Rattle.std.proofs.lemmas.List.Recursion.{is_count_by}
use Rattle.std.specs.List.{All, count_by}
use Rattle.det_core.specs.declared.entry.Entry.{Entry}
use Rattle.seat_board.specs.declared.seat_turn.SeatTurn.{SeatTurn}
use Rattle.seat_board.specs.Desk.{SeatEntry, counted, cut, turns_of, history_of}
use Rattle.seat_board.specs.Seats.{added}

picked : (b : Bool) (x : List Entry) (l l' t : List (List Entry)) → l' ≡ l ++ t → (if b then x ∷ l' else l') ≡ (if b then x ∷ l else l) ++ t
picked true x l l' t e = λ k. x ∷ e k
picked false x l l' t e = e

passed : (b : Bool) (x : List Entry) (l l' : List (List Entry)) → l' ≡ l → (if b then x ∷ l' else l') ≡ (if b then x ∷ l else l)
passed true x l l' e = λ k. x ∷ e k
passed false x l l' e = e

its_own : (n : ℕ) (es : List Entry) (b : Bool) → (n == n) ≡ b → (if b then es ∷ [] else []) ≡ es ∷ []
its_own n es true e = refl
its_own n es false e = absurd (let one : (n == n) ≡ true = grind (arith, nat_tests) in cc)

not_its : (n m : ℕ) (es : List Entry) (b : Bool) → (n == m) ≡ b → m ≢ n → (if b then es ∷ [] else []) ≡ []
not_its n m es true e ne = absurd (ne (let same : n ≡ m = grind (arith, nat_tests) in sym same))
not_its n m es false e ne = refl

-- one turn more is the last of its seat's turns
pub turns_own : (n : ℕ) (log : List SeatEntry) (es : List Entry) → turns_of n (log ++ record { seat = n; entries = es } ∷ []) ≡ turns_of n log ++ es ∷ []
turns_own n [] es = its_own n es (n == n) refl
turns_own n (x ∷ xs) es = picked (x.seat == n) x.entries (turns_of n xs) (turns_of n (xs ++ record { seat = n; entries = es } ∷ [])) (es ∷ []) (turns_own n xs es)

-- and none of another's
pub turns_other : (n m : ℕ) (log : List SeatEntry) (es : List Entry) → m ≢ n → turns_of m (log ++ record { seat = n; entries = es } ∷ []) ≡ turns_of m log
turns_other n m [] es ne = not_its n m es (n == m) refl ne
turns_other n m (x ∷ xs) es ne = passed (x.seat == m) x.entries (turns_of m xs) (turns_of m (xs ++ record { seat = n; entries = es } ∷ [])) (turns_other n m xs es ne)

pub added_one : (old : List SeatEntry) (e : SeatEntry) → added old (old ++ e ∷ []) ≡ e.entries ∷ []
added_one [] e = refl
added_one (x ∷ xs) e = added_one xs e

pub added_none : (old : List SeatEntry) → added old old ≡ []
added_none [] = refl
added_none (x ∷ xs) = added_none xs

module _ {A : Type 0} where
  take_front : (n : ℕ) (h es : List A) → n ≤ length h → take n (h ++ es) ≡ take n h
  take_front zero h es le = refl
  take_front (suc n) [] es le = absurd (omega (arith, le))
  take_front (suc n) (x ∷ h) es le = λ k. x ∷ take_front n h es (omega (arith, le)) k

  drop_front : (n : ℕ) (h es : List A) → n ≤ length h → drop n (h ++ es) ≡ drop n h ++ es
  drop_front zero h es le = refl
  drop_front (suc n) [] es le = absurd (omega (arith, le))
  drop_front (suc n) (x ∷ h) es le = drop_front n h es (omega (arith, le))

  drop_left : (n : ℕ) (h : List A) → n ≤ length h → n + length (drop n h) ≡ length h
  drop_left zero h le = omega arith
  drop_left (suc n) [] le = absurd (omega (arith, le))
  drop_left (suc n) (x ∷ h) le = omega (arith, drop_left n h (omega (arith, le)))

  take_whole : (h es : List A) (n : ℕ) → 0 ≡ length h → n ≡ length es → take n (h ++ es) ≡ es
  take_whole [] es n e f = ap (λ m. take m es) f ∙ go es
    where
      go : (xs : List A) → take (length xs) xs ≡ xs
      go [] = refl
      go (x ∷ xs) = λ k. x ∷ go xs k
  take_whole (x ∷ h) es n e f = absurd (omega (arith, e))

  pub join_again : (n : ℕ) (h : List A) → take n h ++ drop n h ≡ h
  join_again zero h = refl
  join_again (suc n) [] = refl
  join_again (suc n) (x ∷ h) = λ k. x ∷ join_again n h k

-- a history that goes on by a turn is cut as before, and then into what the turn added
pub cut_on : (h es : List Entry) (ts : List SeatTurn) (t : SeatTurn) → counted ts ≡ length h → t.entries ≡ length es → cut (h ++ es) (ts ++ t ∷ []) ≡ cut h ts ++ record { seat = t.seat; entries = es } ∷ []
cut_on h es [] t whole it = λ k. record { seat = t.seat; entries = take_whole h es t.entries whole it k } ∷ []
cut_on h es (x ∷ xs) t whole it =
    let within : x.entries ≤ length h = omega (arith, whole) in
    let left = drop_left x.entries h within in
    let rest = cut_on (drop x.entries h) es xs t (omega (arith, whole, left)) it in
    λ k. record { seat = x.seat; entries = take_front x.entries h es within k } ∷ (ap (λ l. cut l (xs ++ t ∷ [])) (drop_front x.entries h es within) ∙ rest) k

pub counted_on : (ts : List SeatTurn) (t : SeatTurn) → counted (ts ++ t ∷ []) ≡ counted ts + t.entries
counted_on [] t = omega arith
counted_on (x ∷ xs) t = omega (arith, counted_on xs t)

-- the turns of a history, one behind the other, are the history
pub cut_whole : (h : List Entry) (ts : List SeatTurn) → counted ts ≡ length h → history_of (cut h ts) ≡ h
cut_whole [] [] whole = refl
cut_whole (e ∷ h) [] whole = absurd (omega (arith, whole))
cut_whole h (x ∷ xs) whole =
    let within : x.entries ≤ length h = omega (arith, whole) in
    let left = drop_left x.entries h within in
    ap (λ l. take x.entries h ++ l) (cut_whole (drop x.entries h) xs (omega (arith, whole, left))) ∙ join_again x.entries h

-- a test that fails adds nothing, and one that holds adds one
no_turn : (b : Bool) (x : List Entry) (l : List (List Entry)) → (if b then x ∷ l else l) ≡ [] → (b ≡ false) × (l ≡ [])
no_turn true x l e = absurd (let none : x ∷ l ≡ [] = e in cc)
no_turn false x l e = (refl, e)

many_turns : (b : Bool) (x : List Entry) (l : List (List Entry)) (n : ℕ) → length l ≡ n → length (if b then x ∷ l else l) ≡ cond b (1 + n) n
many_turns true x l n e = omega (arith, e)
many_turns false x l n e = e

-- if no number from a count on has turns, each turn's is below it
pub seats_below : (h : List Entry) (ts : List SeatTurn) (m : ℕ) → ((n : ℕ) → m ≤ n → turns_of n (cut h ts) ≡ []) → All (λ (t : SeatTurn). t.seat < m) ts
seats_below h [] m none = All-nil (λ (t : SeatTurn). t.seat < m)
seats_below h (t ∷ ts) m none = All-cons (λ (u : SeatTurn). u.seat < m) t ts (low (cases_lt t.seat m)) (seats_below (drop t.entries h) ts m (λ n le. (no_turn (t.seat == n) (take t.entries h) (turns_of n (cut (drop t.entries h) ts)) (none n le)).1))
  where
    low : (t.seat < m) ⊎ (m ≤ t.seat) → t.seat < m
    low (inl lt) = lt
    low (inr le) = absurd (let f = (no_turn (t.seat == t.seat) (take t.entries h) (turns_of t.seat (cut (drop t.entries h) ts)) (none t.seat le)).0 in let one : (t.seat == t.seat) ≡ true = grind (arith, nat_tests) in cc)

-- how many turns a number has is how often it is there
turns_counted : ℕ → List SeatTurn → ℕ
turns_counted n [] = 0
turns_counted n (t ∷ ts) = cond (t.seat == n) (1 + turns_counted n ts) (turns_counted n ts)

cut_counted : (n : ℕ) (h : List Entry) (ts : List SeatTurn) → length (turns_of n (cut h ts)) ≡ turns_counted n ts
unfolding turns_counted
cut_counted n h [] = refl
cut_counted n h (t ∷ ts) = many_turns (t.seat == n) (take t.entries h) (turns_of n (cut (drop t.entries h) ts)) (turns_counted n ts) (cut_counted n (drop t.entries h) ts)

pub turns_count : (n : ℕ) (h : List Entry) (ts : List SeatTurn) → length (turns_of n (cut h ts)) ≡ count_by (λ (t : SeatTurn). t.seat == n) ts
unfolding turns_counted
turns_count n h ts = cut_counted n h ts ∙ is_count_by (turns_counted n) (λ (t : SeatTurn). t.seat == n) refl (λ t rest. refl) ts
