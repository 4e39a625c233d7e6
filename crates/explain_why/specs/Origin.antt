-- Who changed what is watched of a space: the last own event that did, and where that is a join, on through it to the one who stored.
-- Our choice: that a join is followed into the child that it names, and a call on files is not.
use Rattle.std.specs.Prelude.{◌≡◌, ◌⊎◌, ℕ, ◌-◌, ◌^◌, ◌==◌, List, ◌∷◌, ◌++◌, Option, Some, None, codes, if◌then◌else◌}
use Rattle.space_model.specs.Space.{Space}
use Rattle.explain_core.specs.declared.watching.Watched.{Watched}
use Rattle.explain_core.specs.Joins.{joined_path}
use Rattle.explain_core.specs.Watch.{Noted}
use Rattle.explain_core.specs.Reached.{HasBefore, HasSoMany, NeverChanges, TellsLastChange}

-- of the first so many own events at a path, the last that changed what is watched left this value
pub record IsLeftBy (root : Space) (p : List ℕ) (to : ℕ) (w : Watched) (value : ℕ) (c : Noted) : Type 0 where
  pub last : TellsLastChange root p to w c
  pub same : c.value ≡ value

-- none of them changed it, or the last that did left another value: no own event put it there
abbrev pub IsLeftByNone : Space → List ℕ → ℕ → Watched → ℕ → Type 0
IsLeftByNone root p to w value = NeverChanges root p to w ⊎ ((c : Noted) × TellsLastChange root p to w c × (c.value ≡ value → ⊥))

-- the event that left this value, or that none did
abbrev pub IsLeft : Space → List ℕ → ℕ → Watched → ℕ → Option Noted → Type 0
IsLeft root p to w value None = IsLeftByNone root p to w value
IsLeft root p to w value (Some c) = IsLeftBy root p to w value c

-- an event, where it left this value
abbrev pub where_left : ℕ → Option Noted → Option Noted
where_left value None = None
where_left value (Some c) = if c.value == value then Some c else None

-- before the own event of a number at p has happened, so many at q have; where there are more at q than a number of 64 bits can count, nothing is said
abbrev pub IsBefore : Space → List ℕ → ℕ → List ℕ → ℕ → Type 0
IsBefore root p number q count = HasBefore root p number q count ⊎ HasSoMany root q (2 ^ 64 - 1)

-- a line for the last of the first so many own events at a path that left a value, where one did; and behind one that joined a child, the same of the
-- child's own events before it
pub data TellsOrigin (root : Space) (w : Watched) : List ℕ → ℕ → ℕ → List ℕ → List ℕ → Type 0 where
  by_none : (p : List ℕ) (to value : ℕ) (word : List ℕ) → IsLeftByNone root p to w value → TellsOrigin root w p to value word (word ++ codes " no own event\n")
  by_own : (p : List ℕ) (to value : ℕ) (word : List ℕ) (c : Noted) → IsLeftBy root p to w value c → joined_path p w c ≡ None → TellsOrigin root w p to value word (word ++ 32 ∷ c.line)
  by_join : (p : List ℕ) (to value : ℕ) (word : List ℕ) (c : Noted) (q : List ℕ) (count : ℕ) (rest : List ℕ) → IsLeftBy root p to w value c → joined_path p w c ≡ Some q → IsBefore root p c.number q count
      → TellsOrigin root w q count value (codes "through") rest → TellsOrigin root w p to value word (word ++ 32 ∷ (c.line ++ rest))
