-- Pages of a range that a child changed, and what is merged of one page.
-- Our choice: a restatement for proofs.
use Rattle.std.specs.Prelude.{◌≡◌, ℕ, Bool, ◌+◌, ◌*◌, ◌<◌, ◌≤◌, ◌⊎◌, false, true, List, [], ◌∷◌, ◌++◌, All, Contains, slice_index}
use Rattle.memory_model.specs.Memory.{Memory, byte_at, permission_at}
use Rattle.memory_model.specs.Ranges.{IsZeroPage}
use Rattle.memory_model.specs.Sizes.{page_size, pages}
use Rattle.merge_model.specs.Merge.{is_conflict, merged_byte}
use Rattle.space_mem.specs.Held.{Held, IsClean, IsOutside, Owns, SamePage}
use Rattle.snapshot.specs.declared.changes.Change.{Change}
use Rattle.snapshot.specs.declared.changes.Change.TheVariants.{Same, Taken, Merged}
use Rattle.snapshot.specs.declared.changes.Found.{Found}

-- two memories have the same bytes in the pages from one to before another
abbrev pub SameBytes : Memory → Memory → ℕ → ℕ → Type 0
SameBytes m n first end = (a : ℕ) → page_size * first ≤ a → a < page_size * end → byte_at m a ≡ byte_at n a

-- no address from one to before another is in conflict
abbrev pub NoneInConflict : Bool → Memory → Memory → Memory → ℕ → ℕ → Type 0
NoneInConflict agree snapshot child parent from to = (a : ℕ) → from ≤ a → a < to → is_conflict agree snapshot child parent a ≡ false

-- the next page from one to before another of which the bytes of two memories may differ
pub record IsNextToMerge (m n : Memory) (from end page : ℕ) : Type 0 where
  pub above : from ≤ page
  pub below : page < end
  pub same : SameBytes m n from page

-- the bytes of a page after a merge
abbrev pub IsMergedPage : Memory → Memory → Memory → ℕ → List ℕ → Type 0
IsMergedPage snapshot child parent page bytes = (k : ℕ) → k < page_size → slice_index bytes k ≡ merged_byte snapshot child parent (page_size * page + k)

-- the least address of a page that is in conflict
pub record IsFirstConflict (agree : Bool) (snapshot child parent : Memory) (page addr : ℕ) : Type 0 where
  pub above : page_size * page ≤ addr
  pub below : addr < page_size * (page + 1)
  pub here : is_conflict agree snapshot child parent addr ≡ true
  pub least : NoneInConflict agree snapshot child parent (page_size * page) addr

-- a page that a merge of the pages from one to before another passes over: it is not one of them, or it is clean in the child, or it has the
-- same bytes in child and snapshot
abbrev pub IsPassedOver : Held → Memory → ℕ → ℕ → ℕ → Type 0
IsPassedOver child snapshot first end page = IsOutside first end page ⊎ (IsClean child page ⊎ SamePage child.memory snapshot page)

-- a page of the same bytes in two memories
abbrev pub IsEqual : Memory → Memory → ℕ → Type 0
IsEqual m n page = (page < pages) × SamePage m n page

-- each page from one to before another is clean, or has no byte other than 0
abbrev pub ArePassed : Held → ℕ → ℕ → Type 0
ArePassed h from end = (q : ℕ) → from ≤ q → q < end → IsClean h q ⊎ IsZeroPage h.memory q

-- each of them that has the snapshot's bytes is so, or stands in a list
abbrev pub AreFound : Held → Memory → ℕ → ℕ → List ℕ → Type 0
AreFound h snapshot from end found = (q : ℕ) → from ≤ q → q < end → SamePage h.memory snapshot q → IsClean h q ⊎ (IsZeroPage h.memory q ⊎ Contains found q)

-- each of them that has the snapshot's bytes is so
abbrev pub AreSettled : Held → Memory → ℕ → ℕ → Type 0
AreSettled h snapshot from end = (q : ℕ) → from ≤ q → q < end → SamePage h.memory snapshot q → IsClean h q ⊎ IsZeroPage h.memory q

-- a page that it merges
pub record IsMerged (child : Held) (snapshot : Memory) (first end page : ℕ) : Type 0 where
  pub above : first ≤ page
  pub below : page < end
  pub dirty : IsClean child page → ⊥
  pub differs : SamePage child.memory snapshot page → ⊥

-- the next page from one to before another of which a child changed a byte
pub record IsNextChanged (child : Held) (snapshot : Memory) (from end page : ℕ) : Type 0 where
  pub changed : IsMerged child snapshot from end page
  pub same : SameBytes child.memory snapshot from page

-- each page from one to before another of which a child changed a byte is owned
abbrev pub OwnsChanged : Memory → Memory → Held → ℕ → ℕ → Type 0
OwnsChanged child snapshot parent first end = (page : ℕ) → first ≤ page → page < end → SamePage child snapshot page ⊎ Owns parent page

-- what a merge does with a page: nothing, where the child has the snapshot's bytes; it takes the child's over, where the parent has the snapshot's
-- and does not own the page; else it merges them byte by byte
abbrev pub HasChange : Held → Memory → Memory → ℕ → Change → Type 0
HasChange parent child snapshot page Same = SamePage child snapshot page
HasChange parent child snapshot page Taken = (SamePage child snapshot page → ⊥) × (SamePage parent.memory snapshot page × (Owns parent page → ⊥))
HasChange parent child snapshot page Merged = (SamePage child snapshot page → ⊥) × (Owns parent page ⊎ (SamePage parent.memory snapshot page → ⊥))

-- a page that it takes over
pub record IsTaken (parent child : Held) (snapshot : Memory) (first end page : ℕ) : Type 0 where
  pub merged : IsMerged child snapshot first end page
  pub same : SamePage parent.memory snapshot page
  pub shared : Owns parent page → ⊥

-- a page that is merged byte by byte
pub record IsMixed (parent child : Held) (snapshot : Memory) (first end page : ℕ) : Type 0 where
  pub merged : IsMerged child snapshot first end page
  pub kept : Owns parent page ⊎ (SamePage parent.memory snapshot page → ⊥)

-- each page from one to before another that the child changed stands in one list or the other, and those that are dirty and as they were in a third
pub record IsSorted (parent child : Held) (snapshot : Memory) (first from end : ℕ) (found : Found) : Type 0 where
  pub each : (q : ℕ) → first ≤ q → q < from → SamePage child.memory snapshot q ⊎ (Contains found.taken.items q ⊎ Contains found.merged.items q)
  pub taken : All (IsTaken parent child snapshot first end) found.taken.items
  pub merged : All (IsMixed parent child snapshot first end) found.merged.items
  pub equal : All (IsEqual child.memory snapshot) found.equal.items
  pub known : AreFound child snapshot first from found.equal.items

-- a list with a page more, where what a merge does with it is this
abbrev pub taken_with : Change → List ℕ → ℕ → List ℕ
taken_with Same pages page = pages
taken_with Taken pages page = pages ++ page ∷ []
taken_with Merged pages page = pages

abbrev pub merged_with : Change → List ℕ → ℕ → List ℕ
merged_with Same pages page = pages
merged_with Taken pages page = pages
merged_with Merged pages page = pages ++ page ∷ []

abbrev pub equal_with : Change → List ℕ → ℕ → List ℕ
equal_with Same pages page = pages ++ page ∷ []
equal_with Taken pages page = pages
equal_with Merged pages page = pages

-- a page has the merged bytes
abbrev pub IsMergedAt : Memory → Memory → Memory → Memory → ℕ → Type 0
IsMergedAt snapshot child parent merged page = (k : ℕ) → k < page_size → byte_at merged (page_size * page + k) ≡ merged_byte snapshot child parent (page_size * page + k)

-- some pages have the merged bytes; each other page has the bytes that it had, and permissions stay
pub record HasMerged (snapshot child parent : Memory) (each : List ℕ) (merged : Memory) : Type 0 where
  pub permission : (page : ℕ) → permission_at merged page ≡ permission_at parent page
  pub here : All (IsMergedAt snapshot child parent merged) each
  pub other : (page : ℕ) → All (λ one. page ≡ one → ⊥) each → SamePage merged parent page
