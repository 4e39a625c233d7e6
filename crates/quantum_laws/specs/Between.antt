-- A caller with its threads between two of its calls that meet children, and what a thread's snapshot is.
-- Source: OSDI 2010, "Efficient System-Enforced Deterministic Parallelism", emulating legacy thread APIs: threads see each other's writes at the ends of
-- quanta alone.
use Rattle.std.specs.Prelude.{◌≡◌, ℕ, ◌<◌, true, List, [], ◌∷◌, Option, Some}
use Rattle.memory_model.specs.Memory.{Memory, byte_at, permission_at}
use Rattle.space_model.specs.declared.Status.{Status}
use Rattle.space_model.specs.Space.{Space, top_of, children_of, find}
use Rattle.space_model.specs.Commit.{shared_end}
use Rattle.space_model.specs.Runtime.{shared_pages}
use Rattle.run_model.specs.Schedule.{is_enabled, is_local_at, step}

abbrev pub memory_of : Space → Memory
memory_of s = let t = top_of s in t.memory

abbrev pub status_of : Space → Status
status_of s = let t = top_of s in t.status

abbrev pub snapshot_of : Space → Option Memory
snapshot_of s = let t = top_of s in t.snapshot

-- an event may happen: of the caller itself, with so many levels of children left below it, a local one, else any below it
abbrev pub MayHappenBetween : ℕ → List ℕ → Space → Type 0
MayHappenBetween levels [] s = is_local_at [] levels s ≡ true
MayHappenBetween levels (n ∷ p) s = is_enabled (n ∷ p) levels s ≡ true

-- such events, one after the other, lead from one state of the caller to another
abbrev pub LeadsBetween : ℕ → List (List ℕ) → Space → Space → Type 0
LeadsBetween levels [] s t = t ≡ s
LeadsBetween levels (p ∷ ps) s t = MayHappenBetween levels p s × LeadsBetween levels ps (step p levels s) t

-- a memory has the shared bytes and permissions of another
pub record IsSharedCopy (m copy : Memory) : Type 0 where
  pub bytes : (a : ℕ) → a < shared_end → byte_at copy a ≡ byte_at m a
  pub permissions : (page : ℕ) → page < shared_pages → permission_at copy page ≡ permission_at m page

-- the child of this number is there, with a snapshot that has the shared bytes and permissions of a memory
pub record HasSnapshot (n : ℕ) (m : Memory) (s : Space) : Type 0 where
  pub child : Space
  pub snapshot : Memory
  pub there : find n (children_of s) ≡ Some child
  pub kept : snapshot_of child ≡ Some snapshot
  pub copied : IsSharedCopy m snapshot
