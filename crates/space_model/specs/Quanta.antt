-- Threads that run in rounds of quanta: what a start and a commit do, each by what it sees of the children in a row of numbers, and what it edits.
-- Source: OSDI 2010, "Efficient System-Enforced Deterministic Parallelism", emulating legacy thread APIs: a scheduler runs each thread for a quantum
-- and then takes over what it wrote.
-- Our choice: threads are the children whose numbers lie in a row; one that waits for a quantum is stopped because its limit ran out; neither call
-- makes a child; a commit takes over what each child with a snapshot wrote, and counts the children that wait.
use Rattle.std.specs.Prelude.{ℕ, ◌+◌, List, [], ◌∷◌, Option, Some, None, Bool, true, false, if◌then◌else◌}
use Rattle.std.specs.List.{flat_map}
use Rattle.memory_model.specs.Memory.{Memory}
use Rattle.space_model.specs.declared.Status.{Status}
use Rattle.space_model.specs.declared.Status.TheVariants.{Stopped}
use Rattle.space_model.specs.declared.Cause.{Cause}
use Rattle.space_model.specs.declared.Cause.TheVariants.{Limit}
use Rattle.space_model.specs.Space.{Top}
use Rattle.space_model.specs.Change.{after_success, with_count}
use Rattle.space_model.specs.Call.{Seen, sees_top, Edit, change, Meeting}
use Rattle.space_model.specs.Part.{Part, copy_part, snapshot_part, start_part}
use Rattle.space_model.specs.Runtime.{shared_pages}
use Rattle.space_model.specs.Commit.{Written, commits}

-- stopped because its limit ran out
abbrev pub is_limit : Cause → Bool
is_limit Limit = true
is_limit cause = false

abbrev pub waits : Status → Bool
waits (Stopped cause value) = is_limit cause
waits status = false

-- a child with its number
pub record Thread : Type 0 where
  pub number : ℕ
  pub top : Top

-- the children that are there, of those seen in a row from a number on
abbrev pub threads : ℕ → List Seen → List Thread
threads n [] = []
threads n (sees_top (Some t) ∷ others) = record { number = n; top = t } ∷ threads (n + 1) others
threads n (s ∷ others) = threads (n + 1) others

-- how many of them wait for a quantum
abbrev pub count_waiting : List Thread → ℕ
count_waiting [] = 0
count_waiting (c ∷ cs) = (if waits c.top.status then 1 else 0) + count_waiting cs

-- ---- starts

-- a thread that gets a quantum: it has the caller's bytes and permissions of what is shared, and a snapshot, and runs for so many events
unfoldable pub after_start : ℕ → Top → Part
after_start quantum t c = start_part (Some quantum) (snapshot_part (copy_part t.memory 0 0 shared_pages c))

-- each thread that waits
abbrev pub starts : ℕ → Top → List Thread → List Edit
starts quantum t cs = flat_map (λ c. if waits c.top.status then change c.number (after_start quantum t c.top) ∷ [] else []) cs

-- each child of the row that waits gets a quantum; a1 is how many did
abbrev pub start_meeting : ℕ → ℕ → Top → List Seen → Meeting
start_meeting first quantum t seen = record { caller = after_success (with_count (count_waiting (threads first seen)) t); edits = starts quantum t (threads first seen) }

-- ---- commits

-- what a thread wrote, where it has a snapshot
abbrev pub written_since : Option Memory → Memory → List Written
written_since None memory = []
written_since (Some snapshot) memory = record { snapshot = snapshot; memory = memory } ∷ []

abbrev pub writings : List Thread → List Written
writings cs = flat_map (λ c. written_since c.top.snapshot c.top.memory) cs

-- its memory is its next snapshot then
abbrev pub renewal : Thread → Option Memory → List Edit
renewal c None = []
renewal c (Some snapshot) = change c.number (snapshot_part c.top) ∷ []

abbrev pub renewals : List Thread → List Edit
renewals cs = flat_map (λ c. renewal c c.top.snapshot) cs

-- the caller's memory gets what each thread wrote, by rising numbers; a1 is how many of them wait
abbrev pub commit_meeting : ℕ → Top → List Seen → Meeting
commit_meeting first t seen = record {
  caller = after_success (with_count (count_waiting (threads first seen)) (record t { memory = commits t.memory (writings (threads first seen)) }));
  edits = renewals (threads first seen);
}
