-- The steps, as the calls of a table ask for them.
use Rattle.std.proofs.Common.{◌≡◌, ℕ, ◌+◌, ◌%◌, Bool, true, List, sym, ◌∙◌, subst}
use mathlib.Core.Option.{some}
use lib.ListN.{get_elem?}
use Rattle.atomic_table.specs.Table.{Me, Step, Allows, Splits, Joins, Final, Seen}
use Rattle.ticket_lock.specs.declared.view.View.{View}
use Rattle.ticket_lock.specs.Rule.{Holds}
use Rattle.ticket_lock.specs.Plays.{fresh, with_core, draws, looks, ends, IsKnown, MayEnd, MaySplit, MayJoin, IsLast}
use Rattle.ticket_lock.specs.Passes.{IsIdle, IsWaiting, IsInTurn}
use Rattle.ticket_lock.proofs.Views as views
use Rattle.ticket_lock.proofs.Steps.{IsFew, may_draw}
use Rattle.ticket_lock.proofs.Turns.{may_look, may_end}
use Rattle.ticket_lock.proofs.Joins.{may_split, may_join, closes}

module _ {S C : Type 0} (Fits : S → List C → Type 0) (lives : C → Bool) where
  abbrev view_idle : (me : Me S (View S C)) → IsIdle me → views.IsIdle me.0
  view_idle me idle = record { ticket = idle.ticket; lacks = idle.lacks }

  pub draws_by : IsFew Fits → (slots id : ℕ) (me : Me S (View S C)) (said : Step S) → IsIdle me → lives me.0.core ≡ true → Allows (Holds Fits lives) slots id me 0 (λ n. (n + 1) % 18446744073709551616) (λ n new. draws said me n new)
  draws_by few slots id me said idle living =
      subst (λ l. Allows (Holds Fits lives) slots id (me.0, l) 0 (λ n. (n + 1) % 18446744073709551616) (λ n new. draws said (me.0, l) n new)) (sym idle.none) (may_draw Fits lives few slots id me.0 said (view_idle me idle) living)

  pub looks_by : (slots id : ℕ) (me : Me S (View S C)) (t : ℕ) (said : Step S) → IsWaiting t me → Allows (Holds Fits lives) slots id me 1 (λ n. n) (λ n new. looks Fits said me n new)
  looks_by slots id me t said waits =
      subst (λ l. Allows (Holds Fits lives) slots id (me.0, l) 1 (λ n. n) (λ n new. looks Fits said (me.0, l) n new)) (sym waits.none) (may_look Fits lives slots id me.0 t said waits.ticket waits.lacks)

  pub ends_by : (after : C → S → S → C) (slots id : ℕ) (me : Me S (View S C)) (found value : S) (said : Step S) → IsInTurn found value me → MayEnd Fits id me.0.core found value (after me.0.core found value)
      → Allows (Holds Fits lives) slots id me 1 (λ n. (n + 1) % 18446744073709551616) (λ n new. ends after said me n new)
  ends_by after slots id me found value said turn may =
      subst (λ l. Allows (Holds Fits lives) slots id (me.0, l) 1 (λ n. (n + 1) % 18446744073709551616) (λ n new. ends after said (me.0, l) n new)) (sym turn.it) (may_end Fits lives after slots id me.0 found value said turn.has turn.noted may)

  pub splits_by : (id : ℕ) (me : Me S (View S C)) (left right : C) → IsIdle me → MaySplit Fits id me.0.core left right → Splits (Holds Fits lives) id me.0 (with_core me.0 left) (fresh right)
  splits_by id me left right idle may = may_split Fits lives id me.0 left right (view_idle me idle) may

  pub joins_by : (id : ℕ) (me : Me S (View S C)) (other : ℕ) (too : Me S (View S C)) (both spent : C) → IsIdle me → IsIdle too → MayJoin Fits id me.0.core other too.0.core both spent → Joins (Holds Fits lives) id me.0 other too.0 (with_core me.0 both) (fresh spent)
  joins_by id me other too both spent idle idle_too may = may_join Fits lives id me.0 other too.0 both spent (view_idle me idle) (view_idle too idle_too) may

  pub closes_by : (id : ℕ) (me : Me S (View S C)) (words : List ℕ) (xs : List S) (x : S) → IsIdle me → IsLast Fits lives id me.0.core → Final (Seen (Holds Fits lives) id me.0) words xs → get_elem? xs 0 ≡ some x → IsKnown Fits me.0.core x
  closes_by id me words xs x idle last final at =
      let c = closes Fits lives id me.0 words xs (view_idle me idle) last final in
      let both : some c.0 ≡ some x = sym c.1 ∙ at in
      let same : c.0 ≡ x = cc in
      subst (λ (y : S). IsKnown Fits me.0.core y) same c.2
