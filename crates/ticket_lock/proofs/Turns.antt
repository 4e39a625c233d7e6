-- The pass whose turn it is has the value by a look, and gives it back as its turn ends.
use Rattle.std.proofs.Common.{◌≡◌, ◌≢◌, ℕ, ◌+◌, ◌%◌, ◌<◌, ◌≤◌, Bool, true, false, List, [], ◌∷◌, Some, None, refl, sym, ap, ◌∙◌, subst, arith, set, slice_index, get_or, drop, inl, inr, ◌⊎◌, true≢false}
use Rattle.std.proofs.lemmas.Bool.{cases_eq}
use mathlib.Core.Option as opt
use mathlib.Core.Option.{some, none}
use lib.ListN.{get_elem?}
use Rattle.atomic_table.specs.Table.{State, Me, Step, Allows, Act, keeps, takes, gives, Valid, stepped, carried_after}
use Rattle.atomic_table.proofs.Lists.{at_set, set_here, set_again}
use Rattle.ticket_lock.specs.declared.view.View.{View}
use Rattle.ticket_lock.specs.Rule.{ahead, one_if, waits, known, AreDrawn, AreApart, AtHome, IsOut, Holds}
use Rattle.ticket_lock.specs.Plays.{with_value, with_ended, looks, ends, stays, MayEnd}
use Rattle.ticket_lock.proofs.Views.{total-set, there, known_set, known_at, known_same}
use Rattle.ticket_lock.proofs.Tickets.{next_back, same_ahead}
use Rattle.ticket_lock.proofs.Steps.{set_second, same_second, set_other}

at_home : {A : Type 0} (hs : List (opt.Option A)) (x : A) → hs ≡ some x ∷ [] → get_elem? hs 0 ≡ some (some x)
at_home hs x e = rw e refl

module _ {S C : Type 0} (Fits : S → List C → Type 0) (lives : C → Bool) where
  abbrev Tab : Type 0
  Tab = State S (View S C)

  module _ (s : Tab) (h : Holds Fits lives s) (id : ℕ) (v : View S C) (at : get_elem? s.views id ≡ some v) (lacks : v.has ≡ false) (in_turn : v.ticket ≡ Some h.now) where
    -- the value is at home, since only the pass whose turn it is could have it
    home : AtHome Fits s.homes s.views
    home = go h.slot
      where
        go : AtHome Fits s.homes s.views ⊎ IsOut Fits s.homes h.now s.views → AtHome Fits s.homes s.views
        go (inl a) = a
        go (inr o) =
            let e : id ≡ o.holder = h.apart id o.holder v o.view h.now at o.at in_turn o.in_turn in
            let same : some v ≡ some o.view = sym at ∙ ap (get_elem? s.views) e ∙ o.at in
            let has = o.has_it in
            absurd (true≢false cc)

    taken : View S C
    taken = with_value v home.slot

    looked : List (View S C)
    looked = set s.views id taken

    look_tickets : AreDrawn lives h.drawn h.now looked
    unfolding looked taken
    look_tickets i u t here is = go (at_set s.views id i taken u here)
      where
        go : ((i ≡ id) × (taken ≡ u)) ⊎ ((i ≢ id) × (get_elem? s.views i ≡ some u)) → (t < 18446744073709551616) × (ahead h.now t < ahead h.now h.drawn) × (lives u.core ≡ true)
        go (inl p) = let d = h.tickets id v t at (ap (λ (x : View S C). x.ticket) p.1 ∙ is) in (d.0, d.1, ap (λ (x : View S C). lives x.core) (sym p.1) ∙ d.2)
        go (inr p) = h.tickets i u t p.1 is

    look_apart : AreApart looked
    unfolding looked taken
    look_apart i j u w t hi hj is js = go (at_set s.views id i taken u hi) (at_set s.views id j taken w hj)
      where
        go : ((i ≡ id) × (taken ≡ u)) ⊎ ((i ≢ id) × (get_elem? s.views i ≡ some u)) → ((j ≡ id) × (taken ≡ w)) ⊎ ((j ≢ id) × (get_elem? s.views j ≡ some w)) → i ≡ j
        go (inl p) (inl q) = p.0 ∙ sym q.0
        go (inl p) (inr q) = p.0 ∙ h.apart id j v w t at q.1 (ap (λ (x : View S C). x.ticket) p.1 ∙ is) js
        go (inr p) (inl q) = h.apart i id u v t p.1 at is (ap (λ (x : View S C). x.ticket) q.1 ∙ js) ∙ sym q.0
        go (inr p) (inr q) = h.apart i j u w t p.1 q.1 is js

    look_out : IsOut Fits (set s.homes 0 none) h.now looked
    unfolding looked taken
    look_out =
        let a = home in record {
          holder = id;
          view = taken;
          value = a.slot;
          away = rw a.home refl;
          at = set_here s.views id taken (there s.views id v at);
          in_turn = in_turn;
          has_it = refl;
          alone = alone;
          noted = refl;
          fits = subst (Fits a.slot) (sym (known_same s.views id v taken at refl)) a.fits;
        }
      where
        alone : (i : ℕ) (u : View S C) → get_elem? (set s.views id taken) i ≡ some u → u.has ≡ true → i ≡ id
        alone i u here has = go (at_set s.views id i taken u here)
          where
            go : ((i ≡ id) × (taken ≡ u)) ⊎ ((i ≢ id) × (get_elem? s.views i ≡ some u)) → i ≡ id
            go (inl p) = p.0
            go (inr p) = absurd (true≢false (sym has ∙ home.free i u p.1))

    look_holds : Holds Fits lives (record { words = s.words; homes = set s.homes 0 none; views = looked })
    unfolding looked taken
    look_holds = record {
      drawn = h.drawn;
      now = h.now;
      others = h.others;
      words = h.words;
      small = h.small;
      tickets = look_tickets;
      apart = look_apart;
      counted = (let b = total-set waits s.views id v taken at in let k = h.counted in omega (arith, b, k));
      slot = inr look_out;
    }

  -- a look at whose turn it is: the pass whose turn has come has the value
  pub may_look : (slots id : ℕ) (v : View S C) (t : ℕ) (said : Step S) → v.ticket ≡ Some t → v.has ≡ false → Allows (Holds Fits lives) slots id (v, []) 1 (λ n. n) (λ n me. looks Fits said (v, []) n me)
  unfolding looked taken
  may_look slots id v t said ticket lacks s h len at bound =
      let now : slice_index s.words 1 ≡ h.now = rw h.words refl in
      rw now (go (cases_eq t h.now))
    where
      same : set s.words 1 h.now ≡ s.words
      same = same_second s.words h.drawn h.now h.others h.words

      go : (t ≡ h.now) ⊎ (t ≢ h.now) → (w : View S C) × (a : Act S) × Valid s.homes [] a × Holds Fits lives (stepped s 1 h.now id [] w a) × looks Fits said (v, []) h.now (w, carried_after [] a)
      go (inl e) =
          let in_turn : v.ticket ≡ Some h.now = ticket ∙ ap Some e in
          let a = home s h id v at lacks in_turn in (
            with_value v a.slot,
            takes 0 a.slot,
            at_home s.homes a.slot a.home,
            subst (λ ws. Holds Fits lives (record { words = ws; homes = set s.homes 0 none; views = set s.views id (with_value v a.slot) })) (sym same) (look_holds s h id v at lacks in_turn),
            ((λ _. (a.slot, refl, (known s.views, id, known_at s.views id v at, a.fits))), (λ never. absurd (never in_turn))),
          )
      go (inr ne) = (
        v,
        keeps,
        tt,
        subst (λ ws. Holds Fits lives (record { words = ws; homes = s.homes; views = set s.views id v })) (sym same) (subst (λ vs. Holds Fits lives (record { words = s.words; homes = s.homes; views = vs })) (sym (set_again s.views id v at)) h),
        ((λ is. absurd (ne (let both : Some t ≡ Some h.now = sym ticket ∙ is in cc))), (λ _. refl)),
      )

  module _ (s : Tab) (h : Holds Fits lives s) (id : ℕ) (v : View S C) (at : get_elem? s.views id ≡ some v) (has : v.has ≡ true) (old : S) (noted : v.noted ≡ Some old) (y : S) (core : C) (may : MayEnd Fits id v.core old y core) where
    -- the value is out with this pass
    mine : (v.ticket ≡ Some h.now) × (s.homes ≡ none ∷ []) × ((i : ℕ) (u : View S C) → get_elem? s.views i ≡ some u → u.has ≡ true → i ≡ id) × Fits old (known s.views)
    mine = go h.slot
      where
        go : AtHome Fits s.homes s.views ⊎ IsOut Fits s.homes h.now s.views → (v.ticket ≡ Some h.now) × (s.homes ≡ none ∷ []) × ((i : ℕ) (u : View S C) → get_elem? s.views i ≡ some u → u.has ≡ true → i ≡ id) × Fits old (known s.views)
        go (inl a) = absurd (true≢false (sym has ∙ a.free id v at))
        go (inr o) =
            let e : id ≡ o.holder = o.alone id v at has in
            let same : some v ≡ some o.view = sym at ∙ ap (get_elem? s.views) e ∙ o.at in
            let turn = o.in_turn in
            let its = o.noted in
            let value : o.value ≡ old = (let both : Some o.value ≡ Some old = cc in cc) in
            (cc, o.away, (λ i u here it. o.alone i u here it ∙ sym e), subst (λ x. Fits x (known s.views)) value o.fits)

    next : ℕ
    next = (h.now + 1) % 18446744073709551616

    some_drawn : 0 < ahead h.now h.drawn
    some_drawn = let d = h.tickets id v h.now at mine.0 in omega (arith, d.1)

    nearer : ahead next h.drawn + 1 ≡ ahead h.now h.drawn
    unfolding next
    nearer = next_back h.now h.drawn h.small.1 h.small.0 some_drawn

    ended : View S C
    ended = with_ended v core

    passed : List (View S C)
    passed = set s.views id ended

    end_tickets : AreDrawn lives h.drawn next passed
    unfolding passed ended next
    end_tickets i u t here is = go (at_set s.views id i ended u here)
      where
        go : ((i ≡ id) × (ended ≡ u)) ⊎ ((i ≢ id) × (get_elem? s.views i ≡ some u)) → (t < 18446744073709551616) × (ahead next t < ahead next h.drawn) × (lives u.core ≡ true)
        go (inl p) = let e : None ≡ Some t = ap (λ (x : View S C). x.ticket) p.1 ∙ is in cc
        go (inr p) =
            let d = h.tickets i u t p.1 is in
            let other : t ≡ h.now → ⊥ = λ e. p.0 (h.apart i id u v t p.1 at is (mine.0 ∙ ap Some (sym e))) in
            let some : 0 < ahead h.now t = omega (arith, other, (λ (z : ahead h.now t ≡ 0). same_ahead h.now t h.small.1 d.0 z)) in
            let a = next_back h.now t h.small.1 d.0 some in
            let b = nearer in
            (d.0, omega (arith, a, b, d.1), d.2)

    end_apart : AreApart passed
    unfolding passed ended
    end_apart i j u w t hi hj is js = go (at_set s.views id i ended u hi) (at_set s.views id j ended w hj)
      where
        go : ((i ≡ id) × (ended ≡ u)) ⊎ ((i ≢ id) × (get_elem? s.views i ≡ some u)) → ((j ≡ id) × (ended ≡ w)) ⊎ ((j ≢ id) × (get_elem? s.views j ≡ some w)) → i ≡ j
        go (inl p) q = let e : None ≡ Some t = ap (λ (x : View S C). x.ticket) p.1 ∙ is in cc
        go (inr p) (inl q) = let e : None ≡ Some t = ap (λ (x : View S C). x.ticket) q.1 ∙ js in cc
        go (inr p) (inr q) = h.apart i j u w t p.1 q.1 is js

    end_home : AtHome Fits (set s.homes 0 (some y)) passed
    unfolding passed ended
    end_home = let m = mine in record {
      slot = y;
      home = rw m.1 refl;
      free = λ i u here. free i u here;
      fits = subst (Fits y) (sym (known_set s.views id ended)) (may (known s.views) m.3 (known_at s.views id v at));
    }
      where
        free : (i : ℕ) (u : View S C) → get_elem? (set s.views id ended) i ≡ some u → u.has ≡ false
        free i u here = go (at_set s.views id i ended u here)
          where
            tell : (b : Bool) → u.has ≡ b → (u.has ≡ true → ⊥) → u.has ≡ false
            tell true e never = absurd (never e)
            tell false e never = e

            go : ((i ≡ id) × (ended ≡ u)) ⊎ ((i ≢ id) × (get_elem? s.views i ≡ some u)) → u.has ≡ false
            go (inl p) = ap (λ (x : View S C). x.has) (sym p.1)
            go (inr p) = tell u.has refl (λ it. p.0 (mine.2 i u p.1 it))

    end_holds : Holds Fits lives (record { words = set s.words 1 next; homes = set s.homes 0 (some y); views = passed })
    unfolding passed ended next
    end_holds = record {
      drawn = h.drawn;
      now = next;
      others = h.others;
      words = set_second s.words h.drawn h.now next h.others h.words;
      small = (h.small.0, omega arith);
      tickets = end_tickets;
      apart = end_apart;
      counted = (let b = total-set waits s.views id v ended at in let f : waits v ≡ 1 = ap one_if mine.0 in let k = h.counted in let x = nearer in omega (arith, b, f, k, x));
      slot = inl end_home;
    }

  -- the pass that has the value gives it back
  pub may_end : (after : C → S → S → C) (slots id : ℕ) (v : View S C) (old y : S) (said : Step S) → v.has ≡ true → v.noted ≡ Some old → MayEnd Fits id v.core old y (after v.core old y)
      → Allows (Holds Fits lives) slots id (v, (0, y) ∷ []) 1 (λ n. (n + 1) % 18446744073709551616) (λ n me. ends after said (v, (0, y) ∷ []) n me)
  unfolding next passed ended
  may_end after slots id v old y said has noted may s h len at bound =
      let now : slice_index s.words 1 ≡ h.now = rw h.words refl in
      rw now (with_ended v (after v.core old y), gives, tt, end_holds s h id v at has old noted y (after v.core old y) may, ((mine s h id v at has old noted y (after v.core old y) may).0, λ found value rest was e. told found value rest was e))
    where
      told : (found value : S) (rest : List (ℕ × S)) → v.noted ≡ Some found → ◌≡◌ {A = List (ℕ × S)} ((0, y) ∷ []) ((0, value) ∷ rest)
          → ◌≡◌ {A = Me S (View S C)} (with_ended v (after v.core old y), []) (with_ended v (after v.core found value), rest)
      told found value rest was e =
          let both : Some old ≡ Some found = sym noted ∙ was in
          let same : old ≡ found = cc in
          let first : y ≡ value = ap (λ (l : List (ℕ × S)). (get_or l 0 (0, y)).1) e in
          let others : [] ≡ rest = ap (drop 1) e in
          λ k. (with_ended v (after v.core (same k) (first k)), others k)

  -- the words by which passes sleep may be any
  pub may_sleep : (slots id word : ℕ) (me : Me S (View S C)) (f : ℕ → ℕ) (said : Step S) → 2 ≤ word → Allows (Holds Fits lives) slots id me word f (λ n new. stays said me n new)
  may_sleep slots id word me f said low s h len at bound =
      let x : ℕ = f (slice_index s.words word) in
      let rest = set_other s.words h.drawn h.now x word h.others low h.words in (
        me.0,
        keeps,
        tt,
        subst (λ vs. Holds Fits lives (record { words = set s.words word x; homes = s.homes; views = vs })) (sym (set_again s.views id me.0 at)) (record {
          drawn = h.drawn;
          now = h.now;
          others = rest.0;
          words = rest.1;
          small = h.small;
          tickets = h.tickets;
          apart = h.apart;
          counted = h.counted;
          slot = h.slot;
        }),
        refl,
      )
