-- The merge of what a child wrote into a page of its parent's, on lists of bytes.
-- Source: OSDI 2010, "Efficient System-Enforced Deterministic Parallelism", the section on reconciling memory: Merge copies the bytes
-- that the child changed since its snapshot, and a byte that both sides changed is a conflict.
-- Our choice: a byte is changed where it differs from the snapshot's, so equal new values are in conflict too, unless the merge lets them agree.
use Rattle.std.specs.Prelude.{◌≡◌, ℕ, ◌<◌, ◌≤◌, ◌==◌, Bool, true, false, not, ◌&&◌, if◌then◌else◌, List, slice_index}
use Rattle.memory_model.specs.Sizes.{page_size}

-- the byte at an offset is another than in the snapshot
abbrev pub is_changed : List ℕ → List ℕ → ℕ → Bool
is_changed snapshot bytes k = not (slice_index bytes k == slice_index snapshot k)

-- both sides changed the byte at an offset; where equal new values agree, to different ones
abbrev pub is_conflict : Bool → List ℕ → List ℕ → List ℕ → ℕ → Bool
is_conflict agree snapshot child parent k = is_changed snapshot child k && is_changed snapshot parent k && not (agree && slice_index child k == slice_index parent k)

-- the child's byte where the child changed it, else the parent's
abbrev pub merged_byte : List ℕ → List ℕ → List ℕ → ℕ → ℕ
merged_byte snapshot child parent k = if is_changed snapshot child k then slice_index child k else slice_index parent k

-- no offset before one is in conflict
abbrev pub NoneInConflict : Bool → List ℕ → List ℕ → List ℕ → ℕ → Type 0
NoneInConflict agree snapshot child parent end = (k : ℕ) → k < end → is_conflict agree snapshot child parent k ≡ false

-- no offset from one to before another is in conflict
abbrev pub NoneInConflictFrom : Bool → List ℕ → List ℕ → List ℕ → ℕ → ℕ → Type 0
NoneInConflictFrom agree snapshot child parent from end = (k : ℕ) → from ≤ k → k < end → is_conflict agree snapshot child parent k ≡ false

-- the least offset of a page that is in conflict
pub record IsFirstConflict (agree : Bool) (snapshot child parent : List ℕ) (k : ℕ) : Type 0 where
  pub within : k < page_size
  pub here : is_conflict agree snapshot child parent k ≡ true
  pub least : NoneInConflict agree snapshot child parent k

-- each offset of a page before one has the merged byte
abbrev pub IsMergeBelow : List ℕ → List ℕ → List ℕ → List ℕ → ℕ → Type 0
IsMergeBelow snapshot child parent merged end = (k : ℕ) → k < end → slice_index merged k ≡ merged_byte snapshot child parent k

-- two lists have the same bytes at the offsets from one to before another
abbrev pub SameFrom : List ℕ → List ℕ → ℕ → ℕ → Type 0
SameFrom a b from end = (k : ℕ) → from ≤ k → k < end → slice_index a k ≡ slice_index b k
