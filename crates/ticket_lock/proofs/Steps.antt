-- Each step of a pass keeps the rule.
use Rattle.std.proofs.Common.{suc, zero, ◌≡◌, ◌≢◌, ℕ, ◌+◌, ◌%◌, ◌<◌, ◌≤◌, Bool, true, false, List, [], ◌∷◌, length, Some, refl, sym, ap, ◌∙◌, subst, arith, set, slice_index, inl, inr, ◌⊎◌, true≢false}
use mathlib.Core.Option as opt
use mathlib.Core.Option.{some, none}
use lib.ListN.{get_elem?}
use Rattle.atomic_table.specs.Table.{State, Step, Allows, keeps}
use Rattle.atomic_table.proofs.Lists.{at_set, set_else}
use Rattle.ticket_lock.specs.declared.view.View.{View}
use Rattle.ticket_lock.specs.Rule.{ahead, total, waits, known, AreDrawn, AreApart, AtHome, IsOut, Holds}
use Rattle.ticket_lock.specs.Plays.{with_ticket, draws}
use Rattle.ticket_lock.proofs.Views.{total-set, few_wait, known_same, known_length, IsIdle, KeepsBusy, idle_waits}
use Rattle.ticket_lock.proofs.Tickets.{next_ahead}

-- there are fewer passes than 2^32
abbrev pub IsFew : {S C : Type 0} → (S → List C → Type 0) → Type 0
IsFew {S} {C} Fits = (x : S) (cs : List C) → Fits x cs → length cs < 4294967296

pub set_first : (xs : List ℕ) (a b d : ℕ) (os : List ℕ) → xs ≡ a ∷ b ∷ os → set xs 0 d ≡ d ∷ b ∷ os
set_first xs a b d os e = rw e refl

pub set_second : (xs : List ℕ) (a b d : ℕ) (os : List ℕ) → xs ≡ a ∷ b ∷ os → set xs 1 d ≡ a ∷ d ∷ os
set_second xs a b d os e = rw e refl

pub same_second : (xs : List ℕ) (a b : ℕ) (os : List ℕ) → xs ≡ a ∷ b ∷ os → set xs 1 b ≡ xs
same_second xs a b os e = rw e refl

-- a word behind the first two leaves them
pub set_other : (xs : List ℕ) (a b d i : ℕ) (os : List ℕ) → 2 ≤ i → xs ≡ a ∷ b ∷ os → (rest : List ℕ) × (set xs i d ≡ a ∷ b ∷ rest)
set_other xs a b d zero os le e = absurd (omega (arith, le))
set_other xs a b d (suc zero) os le e = absurd (omega (arith, le))
set_other xs a b d (suc (suc i)) os le e = (set os i d, rw e refl)

module _ {S C : Type 0} (Fits : S → List C → Type 0) (lives : C → Bool) where
  abbrev Tab : Type 0
  Tab = State S (View S C)

  few_views : IsFew Fits → (s : Tab) → Holds Fits lives s → length s.views < 4294967296
  few_views few s h = go h.slot
    where
      go : AtHome Fits s.homes s.views ⊎ IsOut Fits s.homes h.now s.views → length s.views < 4294967296
      go (inl a) = let x = few a.slot (known s.views) a.fits in omega (arith, x, known_length s.views)
      go (inr o) = let x = few o.value (known s.views) o.fits in omega (arith, x, known_length s.views)

  -- the value is where it was, and with whom, where the busy passes are the same and the value is as the passes know
  slot_same : (homes : List (opt.Option S)) (now : ℕ) (old new : List (View S C)) → KeepsBusy old new → ((x : S) → Fits x (known old) → Fits x (known new)) → AtHome Fits homes old ⊎ IsOut Fits homes now old
      → AtHome Fits homes new ⊎ IsOut Fits homes now new
  slot_same homes now old new busy refit (inl a) = inl (record { slot = a.slot; home = a.home; free = λ i u here. free i u here u.has refl; fits = refit a.slot a.fits })
    where
      free : (i : ℕ) (u : View S C) → get_elem? new i ≡ some u → (b : Bool) → u.has ≡ b → u.has ≡ false
      free i u here true e = absurd (true≢false (sym e ∙ a.free i u (busy.back i u here (inl e))))
      free i u here false e = e
  slot_same homes now old new busy refit (inr o) =
      let has = o.has_it in inr (record {
        holder = o.holder;
        view = o.view;
        value = o.value;
        away = o.away;
        at = busy.forth o.holder o.view o.at (inl has);
        in_turn = o.in_turn;
        has_it = o.has_it;
        alone = λ i u here it. o.alone i u (busy.back i u here (inl it)) it;
        noted = o.noted;
        fits = refit o.value o.fits;
      })

  -- idle passes may come, go and change what they know, where the value stays as the passes know
  pub holds_same : (s : Tab) (h : Holds Fits lives s) (views : List (View S C)) → KeepsBusy s.views views → total waits views ≡ total waits s.views → ((x : S) → Fits x (known s.views) → Fits x (known views))
      → Holds Fits lives (record { words = s.words; homes = s.homes; views = views })
  holds_same s h views busy counts refit = record {
    drawn = h.drawn;
    now = h.now;
    others = h.others;
    words = h.words;
    small = h.small;
    tickets = λ i v t at is. h.tickets i v t (busy.back i v at (inr (t, is))) is;
    apart = λ i j v w t hi hj is js. h.apart i j v w t (busy.back i v hi (inr (t, is))) (busy.back j w hj (inr (t, js))) is js;
    counted = counts ∙ h.counted;
    slot = slot_same s.homes h.now s.views views busy refit h.slot;
  }

  module _ (few : IsFew Fits) (s : Tab) (h : Holds Fits lives s) (id : ℕ) (v : View S C) (at : get_elem? s.views id ≡ some v) (idle : IsIdle v) (living : lives v.core ≡ true) where
    drawn_by : View S C
    drawn_by = with_ticket v h.drawn

    next_ticket : ℕ
    next_ticket = (h.drawn + 1) % 18446744073709551616

    further : ahead h.now next_ticket ≡ ahead h.now h.drawn + 1
    unfolding next_ticket
    further = next_ahead h.now h.drawn h.small.1 h.small.0 (let a = few_wait s.views in let b = few_views few s h in let c = h.counted in omega (arith, a, b, c))

    after_draw : List (View S C)
    after_draw = set s.views id drawn_by

    draw_tickets : AreDrawn lives next_ticket h.now after_draw
    unfolding after_draw drawn_by
    draw_tickets i u t here is = go (at_set s.views id i (with_ticket v h.drawn) u here)
      where
        go : ((i ≡ id) × (with_ticket v h.drawn ≡ u)) ⊎ ((i ≢ id) × (get_elem? s.views i ≡ some u)) → (t < 18446744073709551616) × (ahead h.now t < ahead h.now next_ticket) × (lives u.core ≡ true)
        go (inl p) =
            let e : Some h.drawn ≡ Some t = ap (λ (x : View S C). x.ticket) p.1 ∙ is in
            let e' : h.drawn ≡ t = cc in
            let x = further in
            (rw (sym e') h.small.0, rw (sym e') (omega (arith, x)), ap (λ (y : View S C). lives y.core) (sym p.1) ∙ living)
        go (inr p) = let d = h.tickets i u t p.1 is in let x = further in (d.0, omega (arith, x, d.1), d.2)

    unheld : (i : ℕ) (u : View S C) → get_elem? s.views i ≡ some u → u.ticket ≡ Some h.drawn → ⊥
    unheld i u here is = let d = h.tickets i u h.drawn here is in let x = d.1 in omega (arith, x)

    draw_apart : AreApart after_draw
    unfolding after_draw drawn_by
    draw_apart i j u w t hi hj is js = go (at_set s.views id i (with_ticket v h.drawn) u hi) (at_set s.views id j (with_ticket v h.drawn) w hj)
      where
        mine : (x : View S C) → with_ticket v h.drawn ≡ x → x.ticket ≡ Some t → t ≡ h.drawn
        mine x e xs = let y : Some h.drawn ≡ Some t = ap (λ (z : View S C). z.ticket) e ∙ xs in cc

        go : ((i ≡ id) × (with_ticket v h.drawn ≡ u)) ⊎ ((i ≢ id) × (get_elem? s.views i ≡ some u)) → ((j ≡ id) × (with_ticket v h.drawn ≡ w)) ⊎ ((j ≢ id) × (get_elem? s.views j ≡ some w)) → i ≡ j
        go (inl p) (inl q) = p.0 ∙ sym q.0
        go (inl p) (inr q) = absurd (unheld j w q.1 (js ∙ ap Some (mine u p.1 is)))
        go (inr p) (inl q) = absurd (unheld i u p.1 (is ∙ ap Some (mine w q.1 js)))
        go (inr p) (inr q) = h.apart i j u w t p.1 q.1 is js

    -- the value is where it was: this pass has not got it
    draw_slot : AtHome Fits s.homes after_draw ⊎ IsOut Fits s.homes h.now after_draw
    unfolding after_draw drawn_by
    draw_slot = go h.slot
      where
        same : known (set s.views id (with_ticket v h.drawn)) ≡ known s.views
        same = known_same s.views id v (with_ticket v h.drawn) at refl

        old : (i : ℕ) (u : View S C) → get_elem? (set s.views id (with_ticket v h.drawn)) i ≡ some u → u.has ≡ true → get_elem? s.views i ≡ some u
        old i u here has = pick (at_set s.views id i (with_ticket v h.drawn) u here)
          where
            pick : ((i ≡ id) × (with_ticket v h.drawn ≡ u)) ⊎ ((i ≢ id) × (get_elem? s.views i ≡ some u)) → get_elem? s.views i ≡ some u
            pick (inl p) = absurd (true≢false (sym has ∙ (ap (λ (x : View S C). x.has) (sym p.1) ∙ idle.lacks)))
            pick (inr p) = p.1

        free : AtHome Fits s.homes s.views → (i : ℕ) (u : View S C) → get_elem? (set s.views id (with_ticket v h.drawn)) i ≡ some u → (b : Bool) → u.has ≡ b → u.has ≡ false
        free a i u here true e = absurd (true≢false (sym e ∙ a.free i u (old i u here e)))
        free a i u here false e = e

        go : AtHome Fits s.homes s.views ⊎ IsOut Fits s.homes h.now s.views → AtHome Fits s.homes (set s.views id (with_ticket v h.drawn)) ⊎ IsOut Fits s.homes h.now (set s.views id (with_ticket v h.drawn))
        go (inl a) = inl (record { slot = a.slot; home = a.home; free = λ i u here. free a i u here u.has refl; fits = subst (Fits a.slot) (sym same) a.fits })
        go (inr o) =
            let apart : o.holder ≢ id = λ e. (let both : some v ≡ some o.view = sym at ∙ (ap (get_elem? s.views) (sym e) ∙ o.at) in let has = o.has_it in let lacks = idle.lacks in true≢false cc) in
            inr (record {
              holder = o.holder;
              view = o.view;
              value = o.value;
              away = o.away;
              at = set_else s.views id o.holder (with_ticket v h.drawn) apart ∙ o.at;
              in_turn = o.in_turn;
              has_it = o.has_it;
              alone = λ i u here it. o.alone i u (old i u here it) it;
              noted = o.noted;
              fits = subst (Fits o.value) (sym same) o.fits;
            })

    draw_holds : Holds Fits lives (record { words = set s.words 0 next_ticket; homes = s.homes; views = after_draw })
    unfolding after_draw drawn_by next_ticket
    draw_holds = record {
      drawn = next_ticket;
      now = h.now;
      others = h.others;
      words = set_first s.words h.drawn h.now next_ticket h.others h.words;
      small = (omega arith, h.small.1);
      tickets = draw_tickets;
      apart = draw_apart;
      counted = (let x = further in let b = total-set waits s.views id v drawn_by at in let f : waits v ≡ 0 = idle_waits v idle in let k = h.counted in omega (arith, x, b, f, k));
      slot = draw_slot;
    }

  -- a pass without a ticket may draw one
  pub may_draw : (few : IsFew Fits) (slots id : ℕ) (v : View S C) (said : Step S) → IsIdle v → lives v.core ≡ true → Allows (Holds Fits lives) slots id (v, []) 0 (λ n. (n + 1) % 18446744073709551616) (λ n me. draws said (v, []) n me)
  unfolding after_draw drawn_by next_ticket
  may_draw few slots id v said idle living s h len at bound =
      let first : slice_index s.words 0 ≡ h.drawn = rw h.words refl in
      rw first (with_ticket v h.drawn, keeps, tt, draw_holds few s h id v at idle living, refl)
