-- The children in a row of numbers, and a caller of a start or a commit of quanta that has not paid for its call yet.
-- Our choice: a restatement for contracts.
use Rattle.std.specs.Prelude.{ℕ, List}
use Rattle.space_model.specs.Space.{Space, Children, top_of, children_of}
use Rattle.space_model.specs.Change.{after_payment}
use Rattle.space_model.specs.Call.{seen_of, apply_meeting}
use Rattle.space_model.specs.Quanta.{Thread, threads, start_meeting, commit_meeting}
use Rattle.space_model.specs.Meeting.{in_row}

-- the children that are there
abbrev pub threads_in : ℕ → ℕ → Children → List Thread
threads_in first count cs = threads first (seen_of (in_row first count) cs)

-- the caller and its children after the call, once the children in the row are ready
unfoldable pub with_start : ℕ → ℕ → ℕ → Space → Space
with_start first count quantum s = apply_meeting (start_meeting first quantum (after_payment (top_of s) (top_of s)) (seen_of (in_row first count) (children_of s))) (children_of s)

unfoldable pub with_commit : ℕ → ℕ → Space → Space
with_commit first count s = apply_meeting (commit_meeting first (after_payment (top_of s) (top_of s)) (seen_of (in_row first count) (children_of s))) (children_of s)
