-- What holds of a ticket lock between any two steps.
-- Source: Mellor-Crummey and Scott, "Algorithms for Scalable Synchronization on Shared-Memory Multiprocessors", TOCS 1991, section 2.2: ticket locks.
-- Our choice: both counts go round at 2^64; what each pass knows of the value is part of the rule.
use Rattle.std.specs.Prelude.{◌≡◌, ℕ, ◌+◌, ◌-◌, ◌%◌, ◌<◌, ◌⊎◌, Bool, true, false, List, [], ◌∷◌, map, Option, Some, None}
use mathlib.Core.Option as opt
use mathlib.Core.Option.{some, none}
use lib.ListN.{get_elem?}
use Rattle.atomic_table.specs.Table.{State}
use Rattle.ticket_lock.specs.declared.view.View.{View}

-- how far a ticket stands behind the one whose turn it is, where numbers go round
abbrev pub ahead : ℕ → ℕ → ℕ
ahead now t = (t + (18446744073709551616 - now)) % 18446744073709551616

abbrev pub total : {A : Type 0} → (A → ℕ) → List A → ℕ
total f [] = 0
total f (v ∷ vs) = f v + total f vs

abbrev pub one_if : Option ℕ → ℕ
one_if None = 0
one_if (Some t) = 1

module _ {S C : Type 0} where
  -- what the passes know
  abbrev pub known : List (View S C) → List C
  known vs = map (λ (v : View S C). v.core) vs

  -- whether a pass has a ticket
  abbrev pub waits : View S C → ℕ
  waits v = one_if v.ticket

  -- each ticket that a pass has was drawn, and its turn has not ended
  abbrev pub AreDrawn : (C → Bool) → ℕ → ℕ → List (View S C) → Type 0
  AreDrawn lives drawn now views = (i : ℕ) (v : View S C) (t : ℕ) → get_elem? views i ≡ some v → v.ticket ≡ Some t → (t < 18446744073709551616) × (ahead now t < ahead now drawn) × (lives v.core ≡ true)

  -- no two passes have one ticket
  abbrev pub AreApart : List (View S C) → Type 0
  AreApart views = (i j : ℕ) (v w : View S C) (t : ℕ) → get_elem? views i ≡ some v → get_elem? views j ≡ some w → v.ticket ≡ Some t → w.ticket ≡ Some t → i ≡ j

  -- the value is at home: no pass has it, and it is as the passes know
  pub record AtHome (Fits : S → List C → Type 0) (homes : List (opt.Option S)) (views : List (View S C)) : Type 0 where
    pub slot : S
    pub home : homes ≡ some slot ∷ []
    pub free : (i : ℕ) (v : View S C) → get_elem? views i ≡ some v → v.has ≡ false
    pub fits : Fits slot (known views)

  -- the value is out with the one pass whose turn it is, and was as the passes know when its turn began
  pub record IsOut (Fits : S → List C → Type 0) (homes : List (opt.Option S)) (now : ℕ) (views : List (View S C)) : Type 0 where
    pub holder : ℕ
    pub view : View S C
    pub value : S
    pub away : homes ≡ none ∷ []
    pub at : get_elem? views holder ≡ some view
    pub in_turn : view.ticket ≡ Some now
    pub has_it : view.has ≡ true
    pub alone : (i : ℕ) (v : View S C) → get_elem? views i ≡ some v → v.has ≡ true → i ≡ holder
    pub noted : view.noted ≡ Some value
    pub fits : Fits value (known views)

  pub record Holds (Fits : S → List C → Type 0) (lives : C → Bool) (s : State S (View S C)) : Type 0 where
    -- how many tickets were drawn, and whose turn it is, modulo 2^64; of the other words nothing is asked, by which passes sleep
    pub drawn : ℕ
    pub now : ℕ
    pub others : List ℕ
    pub words : s.words ≡ drawn ∷ now ∷ others
    pub small : (drawn < 18446744073709551616) × (now < 18446744073709551616)
    pub tickets : AreDrawn lives drawn now s.views
    pub apart : AreApart s.views
    -- as many passes have tickets as there are tickets whose turns have not ended
    pub counted : total waits s.views ≡ ahead now drawn
    pub slot : AtHome Fits s.homes s.views ⊎ IsOut Fits s.homes now s.views
