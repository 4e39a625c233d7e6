-- A seat is cut off seat 0, and taken in again; the last seat closes the board.
use Rattle.std.proofs.Common.{◌≡◌, ◌≢◌, ℕ, zero, suc, ◌+◌, ◌≤◌, ◌<◌, Bool, true, false, true≢false, List, [], ◌∷◌, ◌++◌, length, set, Some, None, ◌⊎◌, inl, inr, refl, sym, ap, ◌∙◌, subst, arith, length-set, length-append}
use Rattle.std.specs.List.{All}
use Rattle.std.proofs.lemmas.List.Elements.{All-nil, All-cons, All-append}
use mathlib.Core.Option.{some}
use lib.ListN.{get_elem?}
use Rattle.atomic_table.proofs.Lists.{at_set, set_here, set_else, at_longer}
use Rattle.ticket_lock.proofs.Views.{there, total-set}
use Rattle.ticket_lock.specs.Plays.{IsKnown, MaySplit, MayJoin, IsLast}
use Rattle.board.specs.declared.job.Out.{Out}
use Rattle.board.specs.Jobs.{out_at}
use Rattle.board.specs.Turns.{IsFinished}
use Rattle.seat_board.specs.declared.known.Known.{Known}
use Rattle.seat_board.specs.Held.{Held, Ended}
use Rattle.seat_board.specs.Desk.{Desk, turns_of}
use Rattle.seat_board.specs.Seats.{IsHeld, IsEnded, IsCount, EachOnce, Fits, living, numbers, one_if, times, lives, counted_up, newcomer, taken_in, spent}
use Rattle.seat_board.proofs.Changes.{all_map, or_true}
use Rattle.seat_board.proofs.Numbers.{at_below, once_counted, one_more_ended, others_ended, times_none, times_other, times_same}

at_end : {A : Type 0} (l : List A) (a b : A) (j : ℕ) → get_elem? (l ++ a ∷ []) j ≡ some b → (get_elem? l j ≡ some b) ⊎ ((j ≡ length l) × (a ≡ b))
at_end [] a b zero e = inr (refl, let f : a ≡ b = cc in f)
at_end [] a b (suc j) e = cc
at_end (x ∷ xs) a b zero e = inl e
at_end (x ∷ xs) a b (suc j) e = go (at_end xs a b j e)
  where
    go : (get_elem? xs j ≡ some b) ⊎ ((j ≡ length xs) × (a ≡ b)) → (get_elem? xs j ≡ some b) ⊎ ((suc j ≡ suc (length xs)) × (a ≡ b))
    go (inl i) = inl i
    go (inr p) = inr (ap suc p.0, p.1)

-- what other seats, and the board, see of a seat
record IsAlike (o u : Known) : Type 0 where
  number : u.number ≡ o.number
  lives : u.lives ≡ o.lives
  boot : u.boot ≡ o.boot
  nodes : u.nodes ≡ o.nodes
  job : u.job ≡ o.job
  turns : u.turns ≡ o.turns
  over : u.over ≡ o.over
  ended : u.ended ≡ o.ended

itself : (u : Known) → IsAlike u u
itself u = record { number = refl; lives = refl; boot = refl; nodes = refl; job = refl; turns = refl; over = refl; ended = refl }

module _ (x : Desk) (cs : List Known) (id : ℕ) (c : Known) (fits : Fits x cs) (at : get_elem? cs id ≡ some c) (first : c.number ≡ 0) (alive : c.lives ≡ true) where
  -- it stands first
  first_is : id ≡ 0
  first_is = sym (fits.number id c at alive) ∙ first

  first_count : IsCount cs c
  first_count = fits.count c (ap (get_elem? cs) (sym first_is) ∙ at)

  parted : List Known
  parted = set cs id (counted_up c) ++ newcomer c ∷ []

  abbrev Old : ℕ → Known → Type 0
  Old i u = (o : Known) × (get_elem? cs i ≡ some o) × IsAlike o u

  old : (i : ℕ) (u : Known) → get_elem? parted i ≡ some u → Old i u ⊎ ((i ≡ length cs) × (newcomer c ≡ u))
  unfolding parted
  old i u here = go (at_end (set cs id (counted_up c)) (newcomer c) u i here)
    where
      set_case : ((i ≡ id) × (counted_up c ≡ u)) ⊎ ((i ≢ id) × (get_elem? cs i ≡ some u)) → Old i u
      set_case (inl p) = (c, ap (get_elem? cs) p.0 ∙ at, subst (IsAlike c) p.1 (record { number = refl; lives = refl; boot = refl; nodes = refl; job = refl; turns = refl; over = refl; ended = refl }))
      set_case (inr p) = (u, p.1, itself u)

      go : (get_elem? (set cs id (counted_up c)) i ≡ some u) ⊎ ((i ≡ length (set cs id (counted_up c))) × (newcomer c ≡ u)) → Old i u ⊎ ((i ≡ length cs) × (newcomer c ≡ u))
      go (inl h) = inl (set_case (at_set cs id i (counted_up c) u h))
      go (inr p) = inr (p.0 ∙ length-set cs id (counted_up c), p.1)

  parted_length : length parted ≡ length cs + 1
  unfolding parted
  parted_length = let a = length-append (set cs id (counted_up c)) (newcomer c ∷ []) in let b = length-set cs id (counted_up c) in omega (arith, a, b)

  parted_ended : (e : Ended) → IsEnded x cs e → IsEnded x parted e
  parted_ended e is = record { turns = is.turns; there = (let k = is.there in let l = parted_length in omega (arith, k, l)); gone = λ w here. go w (old e.number w here) }
    where
      go : (w : Known) → Old e.number w ⊎ ((e.number ≡ length cs) × (newcomer c ≡ w)) → w.lives ≡ false
      go w (inl o) = o.2.lives ∙ is.gone o.0 o.1
      go w (inr p) = absurd (let k = is.there in let q = p.0 in omega (arith, k, q))

  fits_parted : c.given < 64 → Fits x parted
  unfolding parted
  fits_parted room = record {
    few = (let l = parted_length in let g = first_count in let h = g.given in omega (arith, l, h, room));
    number = λ i u here live. number i u live (old i u here);
    count = count;
    boot = λ i u here live. boot i u live (old i u here);
    jobs = λ i u h here is. jobs i u h is (old i u here);
    apart = λ i j u w g h hi hj is js same. apart i j u w g h is js same (old i u hi) (old j w hj);
    all = all;
    turns = λ i u here live. turns i u live (old i u here);
    ended = λ i u here. ended i u (old i u here);
    fresh = λ n le. fits.fresh n (let l = parted_length in omega (arith, l, le));
    over = λ i u here is. over i u is (old i u here);
  }
    where
      number : (i : ℕ) (u : Known) → u.lives ≡ true → Old i u ⊎ ((i ≡ length cs) × (newcomer c ≡ u)) → u.number ≡ i
      number i u live (inl o) = o.2.number ∙ fits.number i o.0 o.1 (sym o.2.lives ∙ live)
      number i u live (inr p) = ap (λ (k : Known). k.number) (sym p.1) ∙ ((let g = first_count in g.given) ∙ sym p.0)

      boot : (i : ℕ) (u : Known) → u.lives ≡ true → Old i u ⊎ ((i ≡ length cs) × (newcomer c ≡ u)) → (u.boot ≡ Some (let b = x.board in b.boot)) × (u.nodes ≡ (let b = x.board in let places = b.places in places.nodes))
      boot i u live (inl o) = let f = fits.boot i o.0 o.1 (sym o.2.lives ∙ live) in (o.2.boot ∙ f.0, o.2.nodes ∙ f.1)
      boot i u live (inr p) = let f = fits.boot id c at alive in (ap (λ (k : Known). k.boot) (sym p.1) ∙ f.0, ap (λ (k : Known). k.nodes) (sym p.1) ∙ f.1)

      no_job : (u : Known) (h : Held) → newcomer c ≡ u → u.job ≡ Some h → ⊥
      no_job u h same is = let a : None ≡ Some h = ap (λ (k : Known). k.job) same ∙ is in cc

      jobs : (i : ℕ) (u : Known) (h : Held) → u.job ≡ Some h → Old i u ⊎ ((i ≡ length cs) × (newcomer c ≡ u)) → IsHeld x.board h
      jobs i u h is (inl o) = fits.jobs i o.0 h o.1 (sym o.2.job ∙ is)
      jobs i u h is (inr p) = absurd (no_job u h p.1 is)

      apart : (i j : ℕ) (u w : Known) (g h : Held) → u.job ≡ Some g → w.job ≡ Some h → g.slot ≡ h.slot → Old i u ⊎ ((i ≡ length cs) × (newcomer c ≡ u)) → Old j w ⊎ ((j ≡ length cs) × (newcomer c ≡ w)) → i ≡ j
      apart i j u w g h is js same (inl o) (inl p) = fits.apart i j o.0 p.0 g h o.1 p.1 (sym o.2.job ∙ is) (sym p.2.job ∙ js) same
      apart i j u w g h is js same (inr p) q = absurd (no_job u g p.1 is)
      apart i j u w g h is js same (inl o) (inr p) = absurd (no_job w h p.1 js)

      all : (slot : ℕ) (o : Out) → out_at (let b = x.board in b.out) slot ≡ Some o → (i : ℕ) × (u : Known) × (h : Held) × (get_elem? parted i ≡ some u) × (u.job ≡ Some h) × (h.slot ≡ slot)
      all slot o is = let f = fits.all slot o is in pick f (cases_of f.0)
        where
          cases_of : (i : ℕ) → (i ≡ id) ⊎ (i ≢ id)
          cases_of i = Rattle.std.proofs.lemmas.Bool.cases_eq i id

          pick : (f : (i : ℕ) × (u : Known) × (h : Held) × (get_elem? cs i ≡ some u) × (u.job ≡ Some h) × (h.slot ≡ slot)) → (f.0 ≡ id) ⊎ (f.0 ≢ id)
              → (i : ℕ) × (u : Known) × (h : Held) × (get_elem? (set cs id (counted_up c) ++ newcomer c ∷ []) i ≡ some u) × (u.job ≡ Some h) × (h.slot ≡ slot)
          pick f (inl e) =
              let both : some f.1 ≡ some c = sym f.3 ∙ (ap (get_elem? cs) e ∙ at) in
              let same : f.1 ≡ c = cc in
              (id, counted_up c, f.2, at_longer (set cs id (counted_up c)) (newcomer c ∷ []) id (counted_up c) (set_here cs id (counted_up c) (there cs id c at)), ap (λ (k : Known). k.job) (sym same) ∙ f.4, f.5)
          pick f (inr ne) = (f.0, f.1, f.2, at_longer (set cs id (counted_up c)) (newcomer c ∷ []) f.0 f.1 (set_else cs id f.0 (counted_up c) ne ∙ f.3), f.4, f.5)

      turns : (i : ℕ) (u : Known) → u.lives ≡ true → Old i u ⊎ ((i ≡ length cs) × (newcomer c ≡ u)) → u.turns ≡ turns_of i x.log
      turns i u live (inl o) = o.2.turns ∙ fits.turns i o.0 o.1 (sym o.2.lives ∙ live)
      turns i u live (inr p) = ap (λ (k : Known). k.turns) (sym p.1) ∙ (sym (fits.fresh (length cs) (omega arith)) ∙ ap (λ n. turns_of n x.log) (sym p.0))

      ended : (i : ℕ) (u : Known) → Old i u ⊎ ((i ≡ length cs) × (newcomer c ≡ u)) → All (IsEnded x parted) u.ended
      ended i u (inl o) = subst (All (IsEnded x parted)) (sym o.2.ended) (all_map (IsEnded x cs) (IsEnded x parted) parted_ended (let k = o.0 in k.ended) (fits.ended i o.0 o.1))
      ended i u (inr p) = subst (λ (k : Known). All (IsEnded x parted) k.ended) p.1 (All-nil (IsEnded x parted))

      over : (i : ℕ) (u : Known) → u.over ≡ true → Old i u ⊎ ((i ≡ length cs) × (newcomer c ≡ u)) → IsFinished x.board
      over i u is (inl o) = fits.over i o.0 o.1 (sym o.2.over ∙ is)
      over i u is (inr p) = absurd (true≢false (sym is ∙ ap (λ (k : Known). k.over) (sym p.1)))

      count : (u : Known) → get_elem? parted 0 ≡ some u → IsCount parted u
      count u here = go (at_end (set cs id (counted_up c)) (newcomer c) u 0 here)
        where
          low : All (λ (e : Ended). e.number < length cs) c.ended
          low = all_map (IsEnded x cs) (λ (e : Ended). e.number < length cs) (λ e is. is.there) c.ended (fits.ended id c at)

          each : (n : ℕ) (w : Known) → Old n w ⊎ ((n ≡ length cs) × (newcomer c ≡ w)) → one_if w.lives + times n (numbers c.ended) ≡ 1
          each n w (inl o) = let g = first_count in let h = g.once n o.0 o.1 in let l = ap one_if o.2.lives in omega (arith, h, l)
          each n w (inr p) =
              let none : times n (numbers c.ended) ≡ 0 = subst (λ m. times m (numbers c.ended) ≡ 0) (sym p.0) (times_none c.ended (length cs) low) in
              let l : 1 ≡ one_if w.lives = ap (λ (k : Known). one_if k.lives) p.1 in
              omega (arith, none, l)

          made : (k : Known) → counted_up c ≡ k → IsCount (set cs id (counted_up c) ++ newcomer c ∷ []) k
          made k same = subst (IsCount (set cs id (counted_up c) ++ newcomer c ∷ [])) same (record {
            given = (let g = first_count in let h = g.given in let l = parted_length in omega (arith, h, l));
            once = λ n w at_n. each n w (old n w at_n);
          })

          set_case : ((0 ≡ id) × (counted_up c ≡ u)) ⊎ ((0 ≢ id) × (get_elem? cs 0 ≡ some u)) → IsCount (set cs id (counted_up c) ++ newcomer c ∷ []) u
          set_case (inl p) = made u p.1
          set_case (inr p) = absurd (p.0 (sym first_is))

          go : (get_elem? (set cs id (counted_up c)) 0 ≡ some u) ⊎ ((0 ≡ length (set cs id (counted_up c))) × (newcomer c ≡ u)) → IsCount (set cs id (counted_up c) ++ newcomer c ∷ []) u
          go (inl h) = set_case (at_set cs id 0 (counted_up c) u h)
          go (inr p) = absurd (let l = length-set cs id (counted_up c) in let low = there cs id c at in let q = p.0 in omega (arith, l, low, q))

  module _ (other : ℕ) (e : Known) (at_too : get_elem? cs other ≡ some e) (apart : other ≢ id) (alive_too : e.lives ≡ true) (none : e.job ≡ None) where
    joined : List Known
    joined = set (set cs id (taken_in c e)) other spent

    abbrev Case : ℕ → Known → Type 0
    Case i u = ((i ≡ other) × (spent ≡ u)) ⊎ (((i ≡ id) × (taken_in c e ≡ u)) ⊎ ((i ≢ other) × (i ≢ id) × (get_elem? cs i ≡ some u)))

    case : (i : ℕ) (u : Known) → get_elem? joined i ≡ some u → Case i u
    unfolding joined
    case i u here = go (at_set (set cs id (taken_in c e)) other i spent u here)
      where
        inner : i ≢ other → ((i ≡ id) × (taken_in c e ≡ u)) ⊎ ((i ≢ id) × (get_elem? cs i ≡ some u)) → Case i u
        inner ne (inl p) = inr (inl p)
        inner ne (inr p) = inr (inr (ne, p.0, p.1))

        go : ((i ≡ other) × (spent ≡ u)) ⊎ ((i ≢ other) × (get_elem? (set cs id (taken_in c e)) i ≡ some u)) → Case i u
        go (inl p) = inl p
        go (inr p) = inner p.0 (at_set cs id i (taken_in c e) u p.1)

    joined_length : length joined ≡ length cs
    unfolding joined
    joined_length = length-set (set cs id (taken_in c e)) other spent ∙ length-set cs id (taken_in c e)

    spent_dead : {u : Known} → spent ≡ u → u.lives ≡ true → ⊥
    spent_dead {u} same live = true≢false (sym live ∙ ap (λ (k : Known). k.lives) (sym same))

    number_too : e.number ≡ other
    number_too = fits.number other e at_too alive_too

    still : (d : Ended) → IsEnded x cs d → IsEnded x joined d
    still d is = record { turns = is.turns; there = (let k = is.there in let l = joined_length in omega (arith, k, l)); gone = λ w here. go w (case d.number w here) }
      where
        go : (w : Known) → Case d.number w → w.lives ≡ false
        go w (inl p) = ap (λ (k : Known). k.lives) (sym p.1)
        go w (inr (inl p)) = ap (λ (k : Known). k.lives) (sym p.1) ∙ is.gone c (ap (get_elem? cs) p.0 ∙ at)
        go w (inr (inr p)) = is.gone w p.2

    new_ended : IsEnded x joined (record { number = e.number; turns = e.turns })
    new_ended = record {
      turns = fits.turns other e at_too alive_too ∙ ap (λ n. turns_of n x.log) (sym number_too);
      there = (let l = joined_length in let t = there cs other e at_too in let n = number_too in omega (arith, l, t, n));
      gone = λ w here. go w (case e.number w here);
    }
      where
        go : (w : Known) → Case e.number w → w.lives ≡ false
        go w (inl p) = ap (λ (k : Known). k.lives) (sym p.1)
        go w (inr (inl p)) = absurd (apart (sym number_too ∙ p.0))
        go w (inr (inr p)) = absurd (p.0 number_too)

    all_and : {A : Type 0} (P : A → Type 0) (xs : List A) (y : A) → All P xs → P y → All P (xs ++ y ∷ [])
    all_and P xs y all one = All-append P xs (y ∷ []) all (All-cons P y [] one (All-nil P))

    no_job_too : (u : Known) (h : Held) → spent ≡ u → u.job ≡ Some h → ⊥
    no_job_too u h same is = let a : None ≡ Some h = ap (λ (k : Known). k.job) same ∙ is in cc

    -- a seat that has a job had it before
    had : (i : ℕ) (u : Known) (h : Held) → u.job ≡ Some h → Case i u → (o : Known) × (get_elem? cs i ≡ some o) × (o.job ≡ Some h)
    had i u h is (inl p) = absurd (no_job_too u h p.1 is)
    had i u h is (inr (inl p)) = (c, ap (get_elem? cs) p.0 ∙ at, ap (λ (k : Known). k.job) p.1 ∙ is)
    had i u h is (inr (inr p)) = (u, p.2, is)

    fits_joined : Fits x joined
    unfolding joined
    fits_joined = record {
      few = (let l = joined_length in let f = fits.few in omega (arith, l, f));
      number = λ i u here live. number i u live (case i u here);
      count = count;
      boot = λ i u here live. boot i u live (case i u here);
      jobs = λ i u h here is. (let o = had i u h is (case i u here) in fits.jobs i o.0 h o.1 o.2);
      apart = λ i j u w g h hi hj is js same. (let o = had i u g is (case i u hi) in let p = had j w h js (case j w hj) in fits.apart i j o.0 p.0 g h o.1 p.1 o.2 p.2 same);
      all = all;
      turns = λ i u here live. turns i u live (case i u here);
      ended = λ i u here. ended i u (case i u here);
      fresh = λ n le. fits.fresh n (let l = joined_length in omega (arith, l, le));
      over = λ i u here is. over i u is (case i u here);
    }
      where
        number : (i : ℕ) (u : Known) → u.lives ≡ true → Case i u → u.number ≡ i
        number i u live (inl p) = absurd (spent_dead p.1 live)
        number i u live (inr (inl p)) = ap (λ (k : Known). k.number) (sym p.1) ∙ (fits.number id c at alive ∙ sym p.0)
        number i u live (inr (inr p)) = fits.number i u p.2 live

        boot : (i : ℕ) (u : Known) → u.lives ≡ true → Case i u → (u.boot ≡ Some (let b = x.board in b.boot)) × (u.nodes ≡ (let b = x.board in let places = b.places in places.nodes))
        boot i u live (inl p) = absurd (spent_dead p.1 live)
        boot i u live (inr (inl p)) = let f = fits.boot id c at alive in (ap (λ (k : Known). k.boot) (sym p.1) ∙ f.0, ap (λ (k : Known). k.nodes) (sym p.1) ∙ f.1)
        boot i u live (inr (inr p)) = fits.boot i u p.2 live

        turns : (i : ℕ) (u : Known) → u.lives ≡ true → Case i u → u.turns ≡ turns_of i x.log
        turns i u live (inl p) = absurd (spent_dead p.1 live)
        turns i u live (inr (inl p)) = ap (λ (k : Known). k.turns) (sym p.1) ∙ (fits.turns id c at alive ∙ ap (λ n. turns_of n x.log) (sym p.0))
        turns i u live (inr (inr p)) = fits.turns i u p.2 live

        ended : (i : ℕ) (u : Known) → Case i u → All (IsEnded x joined) u.ended
        ended i u (inl p) = subst (λ (k : Known). All (IsEnded x joined) k.ended) p.1 (All-nil (IsEnded x joined))
        ended i u (inr (inl p)) = subst (λ (k : Known). All (IsEnded x joined) k.ended) p.1 (all_and (IsEnded x joined) c.ended (record { number = e.number; turns = e.turns }) (all_map (IsEnded x cs) (IsEnded x joined) still c.ended (fits.ended id c at)) new_ended)
        ended i u (inr (inr p)) = all_map (IsEnded x cs) (IsEnded x joined) still u.ended (fits.ended i u p.2)

        either : (c.over ≡ true) ⊎ (e.over ≡ true) → IsFinished x.board
        either (inl a) = fits.over id c at a
        either (inr b) = fits.over other e at_too b

        over : (i : ℕ) (u : Known) → u.over ≡ true → Case i u → IsFinished x.board
        over i u is (inl p) = absurd (true≢false (sym is ∙ ap (λ (k : Known). k.over) (sym p.1)))
        over i u is (inr (inl p)) = either (or_true c.over e.over (ap (λ (k : Known). k.over) p.1 ∙ is))
        over i u is (inr (inr p)) = fits.over i u p.2 is

        all : (slot : ℕ) (o : Out) → out_at (let b = x.board in b.out) slot ≡ Some o → (i : ℕ) × (u : Known) × (h : Held) × (get_elem? joined i ≡ some u) × (u.job ≡ Some h) × (h.slot ≡ slot)
        all slot o is = let f = fits.all slot o is in pick f (Rattle.std.proofs.lemmas.Bool.cases_eq f.0 id)
          where
            pick : (f : (i : ℕ) × (u : Known) × (h : Held) × (get_elem? cs i ≡ some u) × (u.job ≡ Some h) × (h.slot ≡ slot)) → (f.0 ≡ id) ⊎ (f.0 ≢ id)
                → (i : ℕ) × (u : Known) × (h : Held) × (get_elem? (set (set cs id (taken_in c e)) other spent) i ≡ some u) × (u.job ≡ Some h) × (h.slot ≡ slot)
            pick f (inl q) =
                let both : some f.1 ≡ some c = sym f.3 ∙ (ap (get_elem? cs) q ∙ at) in
                let same : f.1 ≡ c = cc in
                (id, taken_in c e, f.2, set_else (set cs id (taken_in c e)) other id spent (λ s. apart (sym s)) ∙ set_here cs id (taken_in c e) (there cs id c at), ap (λ (k : Known). k.job) (sym same) ∙ f.4, f.5)
            pick f (inr ne) =
                let ne_too : f.0 ≢ other = λ s. (let both : some f.1 ≡ some e = sym f.3 ∙ (ap (get_elem? cs) s ∙ at_too) in let same : f.1 ≡ e = cc in let a : None ≡ Some f.2 = sym none ∙ (ap (λ (k : Known). k.job) (sym same) ∙ f.4) in cc) in
                (f.0, f.1, f.2, set_else (set cs id (taken_in c e)) other f.0 spent ne_too ∙ (set_else cs id f.0 (taken_in c e) ne ∙ f.3), f.4, f.5)

        count : (u : Known) → get_elem? joined 0 ≡ some u → IsCount joined u
        count u here = go (case 0 u here)
          where
            each : (n : ℕ) (w : Known) → Case n w → one_if w.lives + times n (numbers (c.ended ++ record { number = e.number; turns = e.turns } ∷ [])) ≡ 1
            each n w (inl p) =
                let g = first_count in
                let h = g.once other e at_too in
                let a = ap one_if alive_too in
                let here : times n (numbers c.ended) ≡ times other (numbers c.ended) = ap (λ m. times m (numbers c.ended)) p.0 in
                let more = one_more_ended c.ended (record { number = e.number; turns = e.turns }) n (number_too ∙ sym p.0) in
                let l : 0 ≡ one_if w.lives = ap (λ (k : Known). one_if k.lives) p.1 in
                omega (arith, h, a, here, more, l)
            each n w (inr (inl p)) =
                let g = first_count in
                let h = g.once n c (ap (get_elem? cs) p.0 ∙ at) in
                let more = others_ended c.ended (record { number = e.number; turns = e.turns }) n (λ s. apart (sym number_too ∙ (s ∙ p.0))) in
                let l : one_if c.lives ≡ one_if w.lives = ap (λ (k : Known). one_if k.lives) p.1 in
                omega (arith, h, more, l)
            each n w (inr (inr p)) =
                let g = first_count in
                let h = g.once n w p.2 in
                let more = others_ended c.ended (record { number = e.number; turns = e.turns }) n (λ s. p.0 (sym s ∙ number_too)) in
                omega (arith, h, more)

            go : Case 0 u → IsCount joined u
            go (inl p) = absurd (apart (sym p.0 ∙ sym first_is))
            go (inr (inl p)) = subst (IsCount joined) p.1 (record {
              given = (let g = first_count in g.given ∙ sym joined_length);
              once = λ n w at_n. each n w (case n w at_n);
            })
            go (inr (inr p)) = absurd (p.1 (sym first_is))

pub may_part : (id : ℕ) (c : Known) → c.number ≡ 0 → c.lives ≡ true → c.given < 64 → MaySplit Fits id c (counted_up c) (newcomer c)
unfolding parted
may_part id c first alive room x cs fits at = fits_parted x cs id c fits at first alive room

pub may_take_in : (id : ℕ) (c : Known) (other : ℕ) (e : Known) → c.number ≡ 0 → c.lives ≡ true → e.lives ≡ true → e.job ≡ None → MayJoin Fits id c other e (taken_in c e) spent
unfolding joined
may_take_in id c other e first alive alive_too none x cs fits at at_too apart = fits_joined x cs id c fits at first alive other e at_too apart alive_too none

-- one that lives counts
one_lives : (cs : List Known) (i : ℕ) (c : Known) → get_elem? cs i ≡ some c → c.lives ≡ true → 1 ≤ living cs
one_lives cs i c at alive = let a = total-set (λ (k : Known). one_if k.lives) cs i c spent at in let b = ap one_if alive in omega (arith, a, b)

two_live : (cs : List Known) (i j : ℕ) (c e : Known) → get_elem? cs i ≡ some c → get_elem? cs j ≡ some e → c.lives ≡ true → e.lives ≡ true → j ≢ i → 2 ≤ living cs
two_live cs i j c e at at_too alive alive_too ne =
    let a = total-set (λ (k : Known). one_if k.lives) cs i c spent at in
    let b = ap one_if alive in
    let d = one_lives (set cs i spent) j e (set_else cs i j spent ne ∙ at_too) alive_too in
    omega (arith, a, b, d)

-- where all numbers but its own have ended, seat 0 is the last
pub is_last : (id : ℕ) (c : Known) → c.number ≡ 0 → c.lives ≡ true → c.given ≡ 1 + length c.ended → IsLast Fits lives id c
is_last id c first alive whole x cs fits at j e at_too alive_too = go (Rattle.std.proofs.lemmas.Bool.cases_eq j id)
  where
    go : (j ≡ id) ⊎ (j ≢ id) → j ≡ id
    go (inl same) = same
    go (inr ne) =
        let g = first_count x cs id c fits at first alive in
        let a = g.given in
        let b = once_counted cs c.ended (all_map (IsEnded x cs) (λ (d : Ended). d.number < length cs) (λ d is. is.there) c.ended (fits.ended id c at)) g.once in
        let t = two_live cs id j c e at at_too alive alive_too ne in
        absurd (omega (arith, a, b, t, whole))

-- What a board is known to be as seat 0 closes it, once all other numbers have ended.
module _ (x : Desk) (c : Known) (first : c.number ≡ 0) (alive : c.lives ≡ true) (known : IsKnown Fits c x) where
  -- no number from the count on has turns
  pub closes_fresh : (n : ℕ) → c.given ≤ n → turns_of n x.log ≡ []
  closes_fresh n le =
      let fits = known.3 in
      let g = first_count x known.0 known.1 c fits known.2 first alive in
      let given = g.given in
      fits.fresh n (omega (arith, given, le))

  -- each number below it is that of seat 0, or is once among those that have ended
  pub closes_once : c.given ≡ 1 + length c.ended → EachOnce c.given (0 ∷ numbers c.ended)
  closes_once whole n low = at (at_below known.0 n (let g = count in let given = g.given in omega (arith, given, low)))
    where
      count : IsCount known.0 c
      count = first_count x known.0 known.1 c known.3 known.2 first alive

      id_is : known.1 ≡ 0
      id_is = first_is x known.0 known.1 c known.3 known.2 first alive

      other : (w : Known) → get_elem? known.0 n ≡ some w → n ≢ 0 → (b : Bool) → w.lives ≡ b → one_if w.lives ≡ 0
      other w here ne true live = absurd (ne (is_last known.1 c first alive whole x known.0 known.3 known.2 n w here live ∙ id_is))
      other w here ne false dead = ap one_if dead

      at : (w : Known) × (get_elem? known.0 n ≡ some w) → times n (0 ∷ numbers c.ended) ≡ 1
      at here = go (Rattle.std.proofs.lemmas.Bool.cases_eq n 0)
        where
          go : (n ≡ 0) ⊎ (n ≢ 0) → times n (0 ∷ numbers c.ended) ≡ 1
          go (inl zero_is) =
              let g = count in
              let h = g.once known.1 c known.2 in
              let l = ap one_if alive in
              let same : times known.1 (numbers c.ended) ≡ times 0 (numbers c.ended) = ap (λ m. times m (numbers c.ended)) id_is in
              let a : times 0 (0 ∷ numbers c.ended) ≡ 1 + times 0 (numbers c.ended) = times_same 0 (numbers c.ended) in
              let b : times n (0 ∷ numbers c.ended) ≡ times 0 (0 ∷ numbers c.ended) = ap (λ m. times m (0 ∷ numbers c.ended)) zero_is in
              omega (arith, h, l, same, a, b)
          go (inr ne) =
              let g = count in
              let h = g.once n here.0 here.1 in
              let dead = other here.0 here.1 ne (let w = here.0 in w.lives) refl in
              let a = times_other 0 n (numbers c.ended) (λ e. ne (sym e)) in
              omega (arith, h, dead, a)
