-- A pass is cut in two, or takes in another; a lock is opened, and closed.
use Rattle.std.proofs.Common.{◌≡◌, ℕ, suc, zero, Bool, false, List, [], ◌∷◌, ◌++◌, Some, None, refl, sym, ap, ◌∙◌, subst, arith, set, inl, inr, ◌⊎◌, true≢false}
use mathlib.Core.Option.{some}
use lib.ListN.{get_elem?}
use Rattle.atomic_table.specs.Table.{State, Splits, Joins, opening, Seen, Final}
use Rattle.atomic_table.proofs.Lists.{set_else}
use Rattle.ticket_lock.specs.declared.view.View.{View}
use Rattle.ticket_lock.specs.Rule.{waits, known, AtHome, IsOut, Holds}
use Rattle.ticket_lock.specs.Plays.{fresh, with_core, IsKnown, MaySplit, MayJoin, IsLast}
use Rattle.ticket_lock.proofs.Views.{total-set, total-snoc, known_set, known_at, known_snoc, IsIdle, busy_set, busy_snoc, busy_trans, idle_waits}
use Rattle.ticket_lock.proofs.Steps.{holds_same}

module _ {S C : Type 0} (Fits : S → List C → Type 0) (lives : C → Bool) where
  pub fresh_idle : (c : C) → IsIdle {S = S} (fresh c)
  fresh_idle c = record { ticket = refl; lacks = refl }

  pub core_idle : (v : View S C) (c : C) → IsIdle v → IsIdle (with_core v c)
  core_idle v c idle = record { ticket = idle.ticket; lacks = idle.lacks }

  pub may_split : (id : ℕ) (v : View S C) (left right : C) → IsIdle v → MaySplit Fits id v.core left right → Splits (Holds Fits lives) id v (with_core v left) (fresh right)
  may_split id v left right idle may s h at =
      let idle' = core_idle v left idle in
      let middle : List (View S C) = set s.views id (with_core v left) in
      let busy = busy_trans s.views middle (middle ++ fresh right ∷ []) (busy_set s.views id v (with_core v left) at idle idle') (busy_snoc middle (fresh right) (fresh_idle right)) in
      let a = total-snoc waits middle (fresh right) in
      let b = total-set waits s.views id v (with_core v left) at in
      let c : waits v ≡ 0 = idle_waits v idle in
      let d : waits (with_core v left) ≡ 0 = idle_waits (with_core v left) idle' in
      holds_same Fits lives s h (middle ++ fresh right ∷ []) busy (omega (arith, a, b, c, d)) (λ x fits. subst (Fits x) (sym (known_snoc middle (fresh right) ∙ ap (λ cs. cs ++ right ∷ []) (known_set s.views id (with_core v left)))) (may x (known s.views) fits (known_at s.views id v at)))

  pub may_join : (id : ℕ) (v : View S C) (other : ℕ) (w : View S C) (both spent : C) → IsIdle v → IsIdle w → MayJoin Fits id v.core other w.core both spent → Joins (Holds Fits lives) id v other w (with_core v both) (fresh spent)
  may_join id v other w both spent idle idle_too may s h at apart at_too =
      let idle' = core_idle v both idle in
      let middle : List (View S C) = set s.views id (with_core v both) in
      let there_too : get_elem? s.views other ≡ some w = sym (set_else s.views id other (with_core v both) apart) ∙ at_too in
      let busy = busy_trans s.views middle (set middle other (fresh spent)) (busy_set s.views id v (with_core v both) at idle idle') (busy_set middle other w (fresh spent) at_too idle_too (fresh_idle spent)) in
      let a = total-set waits middle other w (fresh spent) at_too in
      let b = total-set waits s.views id v (with_core v both) at in
      let c : waits v ≡ 0 = idle_waits v idle in
      let d : waits (with_core v both) ≡ 0 = idle_waits (with_core v both) idle' in
      let e : waits w ≡ 0 = idle_waits w idle_too in
      let f : waits {S = S} (fresh spent) ≡ 0 = refl in
      let same : known (set middle other (fresh spent)) ≡ set (set (known s.views) id both) other spent = known_set middle other (fresh spent) ∙ ap (λ cs. set cs other spent) (known_set s.views id (with_core v both)) in
      holds_same Fits lives s h (set middle other (fresh spent)) busy (omega (arith, a, b, c, d, e, f)) (λ x fits. subst (Fits x) (sym same) (may x (known s.views) fits (known_at s.views id v at) (known_at s.views other w there_too) apart))

  -- a lock that begins: nobody has a ticket, and the one pass knows what the value is
  pub opens : (others : List ℕ) (x : S) (c : C) → Fits x (c ∷ []) → Holds Fits lives (opening (0 ∷ 0 ∷ others) (x ∷ []) (fresh c))
  opens others x c fits = record {
    drawn = 0;
    now = 0;
    others = others;
    words = refl;
    small = (omega arith, omega arith);
    tickets = λ i v t at is. absurd (none i v t at is);
    apart = λ i j v w t hi hj is js. absurd (none i v t hi is);
    counted = omega arith;
    slot = inl (record { slot = x; home = refl; free = λ i v at. lacks i v at; fits = fits });
  }
    where
      none : (i : ℕ) (v : View S C) (t : ℕ) → get_elem? (fresh c ∷ []) i ≡ some v → v.ticket ≡ Some t → ⊥
      none zero v t at is = let e : fresh c ≡ v = cc in let f : v.ticket ≡ None = ap (λ (u : View S C). u.ticket) (sym e) in cc
      none (suc i) v t at is = cc

      lacks : (i : ℕ) (v : View S C) → get_elem? (fresh c ∷ []) i ≡ some v → v.has ≡ false
      lacks zero v at = let e : fresh c ≡ v = cc in ap (λ (u : View S C). u.has) (sym e)
      lacks (suc i) v at = cc

  -- a lock that ends: the one pass that may have a ticket has none, so the value is at home, and is as the passes know
  pub closes : (id : ℕ) (v : View S C) (words : List ℕ) (xs : List S) → IsIdle v → IsLast Fits lives id v.core → Final (Seen (Holds Fits lives) id v) words xs
      → (x : S) × (get_elem? xs 0 ≡ some x) × IsKnown Fits v.core x
  closes id v words xs idle last final = go h.slot
    where
      s : State S (View S C)
      s = final.0

      h : Holds Fits lives s
      h = final.1.0

      at : get_elem? s.views id ≡ some v
      at = final.1.1

      go : AtHome Fits s.homes s.views ⊎ IsOut Fits s.homes h.now s.views → (x : S) × (get_elem? xs 0 ≡ some x) × IsKnown Fits v.core x
      go (inl a) = (a.slot, final.4 0 a.slot (rw a.home refl), (known s.views, id, known_at s.views id v at, a.fits))
      go (inr o) =
          let living = h.tickets o.holder o.view h.now o.at o.in_turn in
          let mine : o.holder ≡ id = last o.value (known s.views) o.fits (known_at s.views id v at) o.holder (let u = o.view in u.core) (known_at s.views o.holder o.view o.at) living.2 in
          let same : some v ≡ some o.view = sym at ∙ (ap (get_elem? s.views) (sym mine) ∙ o.at) in
          let has = o.has_it in
          let lacks = idle.lacks in
          absurd (true≢false cc)
