-- Pages of a memory that are put at once: with one permission, each with the bytes of the resident page behind that of the page before, or each
-- without bytes.
-- Our choice: a restatement for proofs.
use Rattle.std.specs.Prelude.{ℕ, zero, suc, ◌+◌, ◌≤◌, List, length, Option, Some, None}
use Rattle.memory_model.specs.Memory.{Memory}
use Rattle.memory_model.specs.Sizes.{greatest_permission, pages}
use Rattle.parcel_model.specs.Parcel.{Content, empty, resident, Entry, with_entry}
use Rattle.node_parcel.specs.declared.runs.Run.{Run}
use Rattle.node_parcel.specs.declared.runs.Placing.{Placing}

-- so many numbers behind one
unfoldable pub number_after : Option ℕ → ℕ → Option ℕ
number_after None k = None
number_after (Some n) k = Some (n + k)

-- the bytes of the resident page of a number, or none
unfoldable pub content_by : Option ℕ → Content
content_by None = empty
content_by (Some n) = resident n

abbrev pub entry_by : ℕ → ℕ → Option ℕ → Entry
entry_by page permission number = record { page = page; permission = permission; content = content_by number }

-- with so many pages of a run
unfoldable pub with_run : List (List ℕ) → Memory → ℕ → ℕ → Option ℕ → ℕ → Memory
with_run known m first permission number zero = m
with_run known m first permission number (suc k) = with_entry known (with_run known m first permission number k) (entry_by (first + k) permission (number_after number k))

-- so many pages behind the one of this number are there
abbrev pub AreThere : List (List ℕ) → Option ℕ → ℕ → Type 0
AreThere known None count = Unit {0}
AreThere known (Some n) count = n + count ≤ length known

-- what every run keeps
pub record IsRun (known : List (List ℕ)) (r : Run) : Type 0 where
  pub within : r.first + r.count ≤ pages
  pub permission : r.permission ≤ greatest_permission
  pub there : AreThere known r.number r.count

-- a memory, once the pages that are still to be put are put
abbrev pub meant : List (List ℕ) → Placing → Memory
meant known p = with_run known p.memory.memory p.run.first p.run.permission p.run.number p.run.count
