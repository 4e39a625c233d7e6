-- Workers in seats.
-- Our choice: what a worker leaves of what its seat knew, and what it needs to begin.
use Rattle.std.specs.Prelude.{◌≡◌, ◌+◌, ◌≤◌, ◌<◌, ℕ, true, List, [], ◌∷◌, ◌++◌, length, Option, Some, None, option_map, Result, Ok, Err, IfOk, slice_index_or}
use Rattle.std.specs.List.{All}
use Rattle.std.specs.declared.alloc.AllocError.{AllocError}
use Rattle.atomic_table.specs.Seated.{TableId}
use Rattle.worker_pool.specs.declared.shop.Turn.{Turn}
use Rattle.board.specs.declared.job.Job.{Job}
use Rattle.board.specs.Turns.{is_over}
use Rattle.seat_board.specs.declared.worker.Finished.{Finished}
use Rattle.seat_board.specs.Held.{Ended}
use Rattle.seat_board.specs.Desk.{job_of}
use Rattle.seat_board.specs.declared.known.Known.{Known}
use Rattle.seat_board.specs.declared.pass.Pass.{Pass}
use Rattle.seat_board.specs.Passes.{known}
use Rattle.seat_board.specs.Seats.{IsDoneOf}

-- a seat of this table, without a job
pub record IsReady (table : TableId) (p : Pass) : Type 0 where
  pub here : p.pass.seat.table_id ≡ table
  pub idle : (known p).job ≡ None

-- what turns leave as it is
pub record IsSame (old new : Known) : Type 0 where
  pub number : new.number ≡ old.number
  pub boot : new.boot ≡ old.boot
  pub nodes : new.nodes ≡ old.nodes
  pub given : new.given ≡ old.given
  pub ended : new.ended ≡ old.ended

-- a seat has had a turn
abbrev pub HasHadTurn : Known → Type 0
HasHadTurn c = 1 ≤ length c.turns

-- a worker has ended: it was told that the board is over, by a turn of its own, and has no job
pub record HasServed (table : TableId) (old : Known) (p : Pass) : Type 0 where
  pub ready : IsReady table p
  pub same : IsSame old (known p)
  pub over : (known p).over ≡ true
  pub had : HasHadTurn (known p)

-- what a seat knows behind a turn: its job is the one that the turn handed out, and that the board is over where the turn said so
abbrev pub Follows : Turn Job → Known → Type 0
Follows t c = (c.job ≡ job_of t) × (is_over t ≡ true → c.over ≡ true)

-- what a worker hands in next, or that the board is over
abbrev pub Goes : Option (Option Finished) → Known → Type 0
Goes (Some finished) c = IsDoneOf c.job (option_map (λ (w : Finished). w.done) finished)
Goes None c = (c.job ≡ None) × (c.over ≡ true)

-- Seat 0, while so many of the numbers that it has given have not ended beside its own
pub record IsFirst (table : TableId) (others : ℕ) (p : Pass) : Type 0 where
  pub ready : IsReady table p
  pub number : (known p).number ≡ 0
  pub given : (known p).given ≡ 1 + (length (known p).ended + others)

abbrev pub AreReady : TableId → List Pass → Type 0
AreReady table ps = All (IsReady table) ps

-- each worker that ended did so as its seat did
abbrev pub AreServed : TableId → List Pass → List (Result Pass AllocError) → Type 0
AreServed table ps rs = (i : ℕ) (d : Pass) (e : Result Pass AllocError) → i < length ps → IfOk (slice_index_or rs i e) (λ p. HasServed table (known (slice_index_or ps i d)) p)

-- the board began with the tree of which both know, on as many nodes
abbrev pub IsOfOneBoard : Pass → Pass → Type 0
IsOfOneBoard p q = ((known p).boot ≡ (known q).boot) × ((known p).nodes ≡ (known q).nodes)

-- what seats knew that are taken in, the last of them first
abbrev pub taken_from : List (Result Pass AllocError) → List Ended
taken_from [] = []
taken_from (Ok p ∷ rs) = taken_from rs ++ record { number = (known p).number; turns = (known p).turns } ∷ []
taken_from (Err e ∷ rs) = taken_from rs

-- what seat 0 knows once it has taken in others
pub record HasTakenIn (old : Known) (others : List (Result Pass AllocError)) (new : Known) : Type 0 where
  pub given : new.given ≡ old.given
  pub turns : new.turns ≡ old.turns
  pub ended : new.ended ≡ old.ended ++ taken_from others
