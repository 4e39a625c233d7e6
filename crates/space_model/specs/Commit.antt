-- What threads wrote, each against its snapshot, laid over one memory in the order of the threads.
-- Source: OSDI 2010, "Efficient System-Enforced Deterministic Parallelism", emulating legacy thread APIs: threads run for a quantum each on memories of
-- their own, and at its end what they changed is committed to the memory that they share.
-- Our choice: a byte is changed where it differs from the snapshot's; the last thread that changed it decides; permissions stay; what is shared lies
-- below a fixed address.
use Rattle.std.specs.Prelude.{◌≡◌, ℕ, ◌*◌, Bool, false, List, [], ◌∷◌}
use Rattle.std.specs.List.{AllByRecursion}
use Rattle.memory_model.specs.Memory.{Memory}
use Rattle.memory_model.specs.Sizes.{page_size}
use Rattle.merge_model.specs.Merge.{is_changed, with_merge}
use Rattle.space_model.specs.Runtime.{shared_pages}

-- what a thread wrote: its memory, and the snapshot against which it is read
pub record Written : Type 0 where
  pub snapshot : Memory
  pub memory : Memory

-- a memory with each shared byte that a thread changed, whatever stood there
abbrev pub over : Memory → Written → Memory
over p w = with_merge w.snapshot w.memory p 0 shared_pages

-- the same of each thread, one after the other
abbrev pub commits : Memory → List Written → Memory
commits p [] = p
commits p (w ∷ ws) = commits (over p w) ws

-- the first address that threads do not share
abbrev pub shared_end : ℕ
shared_end = page_size * shared_pages

-- a thread changed the byte at an address
abbrev pub changes : ℕ → Written → Bool
changes a w = is_changed w.snapshot w.memory a

-- none of these threads did
abbrev pub NoneChanges : ℕ → List Written → Type 0
NoneChanges a ws = AllByRecursion (λ w. changes a w ≡ false) ws
