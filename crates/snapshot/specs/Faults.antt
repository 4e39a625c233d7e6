-- How a merge may fail.
-- Our choice: the least address in conflict is named; want of memory is always a possible answer.
use Rattle.std.specs.Prelude.{◌≡◌, ℕ, Option, Some}
use Rattle.snapshot.specs.declared.fault.MergeError.{MergeError}
use Rattle.snapshot.specs.declared.fault.MergeError.TheVariants.{Conflict, Memory}

-- an error that a merge may give where this is its first address in conflict, if there is one
abbrev pub MayFail : Option ℕ → MergeError → Type 0
MayFail first (Conflict addr) = first ≡ Some addr
MayFail first Memory = Unit {0}

-- an error that names an address in conflict, and this holds of it
abbrev pub IsConflictAt : (ℕ → Type 0) → MergeError → Type 0
IsConflictAt P (Conflict addr) = P addr
IsConflictAt P Memory = ⊥
