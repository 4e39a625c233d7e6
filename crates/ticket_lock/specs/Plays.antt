-- What each step of a pass needs, and what it tells.
-- Our choice: drawing and looking need nothing of what the passes know; ending a turn, splitting and joining owe that the value stays as they know.
use Rattle.std.specs.Prelude.{◌≡◌, ◌≢◌, ℕ, List, [], ◌∷◌, Bool, true, false, Some, None, set, ◌++◌}
use mathlib.Core.Option.{some}
use lib.ListN.{get_elem?}
use Rattle.atomic_table.specs.Table.{Me, Step}
use Rattle.ticket_lock.specs.declared.view.View.{View}

abbrev pub Pass : Type 0 → Type 0 → Type 0
Pass S C = Me S (View S C)

abbrev pub Play : Type 0 → Type 0 → Type 1
Play S C = Step S → Pass S C → ℕ → Pass S C → Type 0

module _ {S C : Type 0} where
  -- a pass that knows this, has no ticket, and has had no turn yet
  abbrev pub fresh : C → View S C
  fresh c = record { marker = record {}; ticket = None; has = false; noted = None; core = c }

  -- with a ticket
  abbrev pub with_ticket : View S C → ℕ → View S C
  with_ticket v t = record v { ticket = Some t }

  -- with the value, as its turn found it
  abbrev pub with_value : View S C → S → View S C
  with_value v x = record v { has = true; noted = Some x }

  -- with no ticket and without the value, which it gave back; it knows something else
  abbrev pub with_ended : View S C → C → View S C
  with_ended v c = record v { ticket = None; has = false; core = c }

  abbrev pub with_core : View S C → C → View S C
  with_core v c = record v { core = c }

  abbrev pub draws : Play S C
  draws st me n new = new ≡ (with_ticket me.0 n, me.1)

  -- what the passes know, this one among them, and the value that is as they know
  abbrev pub IsKnown : (S → List C → Type 0) → C → S → Type 0
  IsKnown fits c x = (cs : List C) × (id : ℕ) × (get_elem? cs id ≡ some c) × fits x cs

  -- it has the value where its turn has come, and nothing has changed else
  abbrev pub looks : (S → List C → Type 0) → Play S C
  looks fits st me n new =
      (me.0.ticket ≡ Some n → (slot : S) × (new ≡ (with_value me.0 slot, (0, slot) ∷ me.1)) × IsKnown fits me.0.core slot)
      × ((me.0.ticket ≡ Some n → ⊥) → new ≡ me)

  -- its turn was that of its ticket; it knows what follows from what it knew, the value as its turn found it, and the value as it gives it back
  abbrev pub ends : (C → S → S → C) → Play S C
  ends after st me n new =
      (me.0.ticket ≡ Some n)
      × ((found value : S) (rest : List (ℕ × S)) → me.0.noted ≡ Some found → me.1 ≡ (0, value) ∷ rest → new ≡ (with_ended me.0 (after me.0.core found value), rest))

  abbrev pub stays : Play S C
  stays st me n new = new ≡ me

  -- the value may become another, and what one pass knows something else
  abbrev pub MayEnd : (S → List C → Type 0) → ℕ → C → S → S → C → Type 0
  MayEnd fits id c old new core = (cs : List C) → fits old cs → get_elem? cs id ≡ some c → fits new (set cs id core)

  -- what one pass knows may be cut in two
  abbrev pub MaySplit : (S → List C → Type 0) → ℕ → C → C → C → Type 0
  MaySplit fits id c left right = (x : S) (cs : List C) → fits x cs → get_elem? cs id ≡ some c → fits x (set cs id left ++ right ∷ [])

  -- one pass may know what two knew, and the other be spent
  abbrev pub MayJoin : (S → List C → Type 0) → ℕ → C → ℕ → C → C → C → Type 0
  MayJoin fits id c other e both spent = (x : S) (cs : List C) → fits x cs → get_elem? cs id ≡ some c → get_elem? cs other ≡ some e → other ≢ id → fits x (set (set cs id both) other spent)

  -- no other pass may have a ticket
  abbrev pub IsLast : (S → List C → Type 0) → (C → Bool) → ℕ → C → Type 0
  IsLast fits lives id c = (x : S) (cs : List C) → fits x cs → get_elem? cs id ≡ some c → (j : ℕ) (e : C) → get_elem? cs j ≡ some e → lives e ≡ true → j ≡ id
