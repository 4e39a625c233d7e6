-- A caller at a path of a tree, between two of its calls that meet children, while events happen elsewhere.
-- Source: OSDI 2010, "Efficient System-Enforced Deterministic Parallelism", emulating legacy thread APIs: threads see each other's writes at the ends of
-- quanta alone.
use Rattle.std.specs.Prelude.{◌≡◌, ℕ, true, List, [], ◌∷◌, Some}
use Rattle.memory_model.specs.Memory.{Memory}
use Rattle.space_model.specs.Space.{Space}
use Rattle.space_model.specs.Path.{at}
use Rattle.run_model.specs.Schedule.{is_enabled, is_local_at, step}
use Rattle.det_laws.specs.Near.{IsOnWay}
use Rattle.quantum_laws.specs.Between.{HasSnapshot}

-- the event at q may happen, in a tree with so many levels of children; of the caller at p, and of each space above it, only an event of that space alone
abbrev pub MayHappenAround : ℕ → List ℕ → List ℕ → Space → Type 0
MayHappenAround levels p q s = (is_enabled q levels s ≡ true) × (IsOnWay q p → is_local_at q levels s ≡ true)

-- such events, one after the other, lead from one tree to another
abbrev pub LeadsAround : ℕ → List ℕ → List (List ℕ) → Space → Space → Type 0
LeadsAround levels p [] s t = t ≡ s
LeadsAround levels p (q ∷ qs) s t = MayHappenAround levels p q s × LeadsAround levels p qs (step q levels s) t

-- the caller at a path is there, and its child of this number has a snapshot with the shared bytes and permissions of a memory
pub record HasSnapshotAt (p : List ℕ) (n : ℕ) (m : Memory) (s : Space) : Type 0 where
  pub caller : Space
  pub there : at p s ≡ Some caller
  pub keeps : HasSnapshot n m caller
