-- What the reading of a file in pieces takes from it.
-- Our choice: how much of a file a load reads.
use Rattle.std.specs.Prelude.{◌≡◌, ℕ, ◌≤◌, ◌⊎◌, List, ◌++◌, length, Option, Some, IfSome, Result, Ok, Err}
use Rattle.std.specs.Io.KnownBytes.{Consumes, Keeps}
use Rattle.det_host.specs.declared.loader.LoadError.{LoadError}
use Rattle.det_host.specs.declared.loader.LoadError.TheVariants.{Failed, TooLarge, Memory}

-- a file that was just opened has all of its bytes left, where they are told
abbrev pub Opens : Option (List ℕ) → Option (List ℕ) → Type 0
Opens held left = IfSome held (λ bytes. left ≡ Some bytes)

-- n bytes of a reader were put behind those that were there; a reader that tells what it has left has lost them
abbrev pub Gains : Option (List ℕ) → Option (List ℕ) → List ℕ → List ℕ → ℕ → Type 0
Gains old new before after n = (got : List ℕ) × (length got ≡ n) × (after ≡ before ++ got) × Consumes old new got

-- a reader that tells what it has left has lost some of its first bytes, so many at most
abbrev pub LosesAtMost : ℕ → Option (List ℕ) → Option (List ℕ) → Type 0
LosesAtMost most old new = (got : List ℕ) × ((length got ≤ most) × Consumes old new got)

-- a load has read of its file, where its bytes are told, so many first bytes at most; where it failed or memory ran out it may not have
-- opened the file, and then what was left of the one that was open is left still
abbrev pub ReadsWithin : {V : Type 0} → ℕ → Option (List ℕ) → Option (List ℕ) → Option (List ℕ) → Result V LoadError → Type 0
ReadsWithin most held old new (Ok v) = LosesAtMost most held new
ReadsWithin most held old new (Err Failed) = Keeps old new ⊎ LosesAtMost most held new
ReadsWithin most held old new (Err (TooLarge read)) = LosesAtMost most held new
ReadsWithin most held old new (Err Memory) = Keeps old new ⊎ LosesAtMost most held new
