-- What is watched in a run, path by path.
-- Our choice: a byte is watched at a path and at all below it, a register at its path alone; of two on one way, the byte nearer to the root.
use Rattle.std.specs.Prelude.{ℕ, List, [], ◌∷◌, ◌++◌, Option, Some, None, if◌then◌else◌}
use Rattle.arrayvec.specs.ArrayVec.{ArrayVec}
use Rattle.event_laws.specs.OwnEvents.{is_same_path}
use Rattle.explain_core.specs.declared.watching.Watched.{Watched}
use Rattle.explain_core.specs.declared.watching.Watched.TheVariants.{Byte, Register}

-- what a map has at a path
abbrev pub entry_at : {V : Type 0} → List (ArrayVec ℕ × V) → List ℕ → Option V
entry_at [] q = None
entry_at (n ∷ ns) q = if is_same_path q n.0.items then Some n.1 else entry_at ns q

abbrev pub Wanted : Type 0
Wanted = List (ArrayVec ℕ × Watched)

-- what is watched of a space for its own sake; x0, which stays 0, where nothing is
abbrev pub itself : Option Watched → Watched
itself None = Register 0
itself (Some w) = w

-- a byte that is watched at a path is watched below it, before all else
abbrev pub from_above : Option Watched → Watched → Watched
from_above None below = below
from_above (Some (Byte a)) below = Byte a
from_above (Some (Register r)) below = below

-- by the path of a space above, and the rest of its own
abbrev pub watched_from : Wanted → List ℕ → List ℕ → Watched
watched_from ws p [] = itself (entry_at ws p)
watched_from ws p (n ∷ rest) = from_above (entry_at ws p) (watched_from ws (p ++ n ∷ []) rest)

abbrev pub watched_at : Wanted → List ℕ → Watched
watched_at ws q = watched_from ws [] q
