-- The merge of what a child wrote into its parent's memory, byte by byte, against the child's snapshot.
-- Source: OSDI 2010, "Efficient System-Enforced Deterministic Parallelism", the kernel interface: Merge copies the bytes that the child
-- changed since its snapshot, and a byte that both sides changed is a conflict.
-- Our choice: a byte is changed where it differs from the snapshot's, so equal new values are in conflict too, unless the merge lets them agree;
-- permissions stay.
use Rattle.std.specs.Prelude.{ℕ, ◌+◌, ◌*◌, ◌==◌, Bool, not, ◌&&◌, Option, if◌then◌else◌}
use Rattle.memory_model.specs.Sizes.{page_size}
use Rattle.memory_model.specs.Memory.{Memory, byte_at, first_without}
use Rattle.memory_model.specs.Ranges.{with_row}

-- the byte at an address is another than in the snapshot
abbrev pub is_changed : Memory → Memory → ℕ → Bool
is_changed snapshot m a = not (byte_at m a == byte_at snapshot a)

-- both sides changed the byte at an address; where equal new values agree, to different ones
abbrev pub is_conflict : Bool → Memory → Memory → Memory → ℕ → Bool
is_conflict agree snapshot child parent a = is_changed snapshot child a && is_changed snapshot parent a && not (agree && byte_at child a == byte_at parent a)

-- the least address in conflict among those of `count` pages from `first` on, if there is one
abbrev pub first_conflict : Bool → Memory → Memory → Memory → ℕ → ℕ → Option ℕ
first_conflict agree snapshot child parent first count = first_without (λ a. not (is_conflict agree snapshot child parent a)) (page_size * first) (page_size * count)

-- the child's byte where the child changed it, else the parent's
abbrev pub merged_byte : Memory → Memory → Memory → ℕ → ℕ
merged_byte snapshot child parent a = if is_changed snapshot child a then byte_at child a else byte_at parent a

-- the parent with what the child changed in `count` pages from `first` on; permissions stay
abbrev pub with_merge : Memory → Memory → Memory → ℕ → ℕ → Memory
with_merge snapshot child parent first count = record parent { bytes = with_row parent.bytes (page_size * first) (λ k. merged_byte snapshot child parent (page_size * first + k)) (page_size * count) }
