-- What the seats of a board hand round: the board, and whose turn each part of its history was.
-- Source: OSDI 2010, "Efficient System-Enforced Deterministic Parallelism": spaces that run side by side, and meet by calls alone.
-- Our choice: one log of turns, each with the number of its seat; the history is their entries, one turn behind the other.
use Rattle.std.specs.Prelude.{◌≡◌, ℕ, ◌+◌, ◌==◌, true, false, List, [], ◌∷◌, ◌++◌, take, drop, length, if◌then◌else◌, Option, Some, None, IsSome, Result, Ok, Err, ◌⊎◌, refl}
use Rattle.std.specs.Coded.{Coded, coded_ℕ, coded×, coded_list, code_by}
use Rattle.det_core.specs.declared.entry.Entry.{Entry}
use Rattle.det_core.specs.contracts.entry.Entry as entry
use Rattle.worker_pool.specs.declared.shop.Turn.{Turn}
use Rattle.worker_pool.specs.declared.shop.Turn.TheVariants.{Job as Hands, Met, Rest, Over}
use Rattle.board.specs.declared.job.Job.{Job}
use Rattle.board.specs.declared.done.Done.{Done}
use Rattle.space_model.specs.Sound.{IsSound}
use Rattle.board.specs.Jobs.{Sets}
use Rattle.board.specs.Listed.{OutsApart, OutsRun}
use Rattle.board.specs.Steps.{IsTaken}
use Rattle.board.specs.Turns.{IsTurn}
use Rattle.board.specs.Value.{Shown, coded_shown}
use Rattle.std.specs.declared.alloc.AllocError.{AllocError}
use Rattle.seat_board.specs.Held.{Held}
use Rattle.seat_board.specs.declared.seat_turn.SeatTurn.{SeatTurn}
use Rattle.seat_board.specs.declared.told.Told.{Told}
use Rattle.seat_board.specs.contracts.told.Told as told

-- a turn in the log: the number of its seat, and what it added to the history
pub record SeatEntry : Type 0 where
  pub seat : ℕ
  pub entries : List Entry

pub record Desk : Type 0 where
  pub board : Shown
  pub log : List SeatEntry
  -- what the last turn answered
  pub told : Told

abbrev pub coded_entry : Coded SeatEntry
coded_entry = code_by (ℕ × List Entry) (coded× coded_ℕ (coded_list entry.the_row.coded)) (λ e. (e.seat, e.entries)) (λ p. record { seat = p.0; entries = p.1 }) (λ _. refl)

abbrev pub coded_desk : Coded Desk
coded_desk = code_by (Shown × (List SeatEntry × Told)) (coded× coded_shown (coded× (coded_list coded_entry) told.the_row.coded)) (λ d. (d.board, (d.log, d.told))) (λ p. record { board = p.0; log = p.1.0; told = p.1.1 }) (λ _. refl)

-- how many entries some turns have
abbrev pub counted : List SeatTurn → ℕ
counted [] = 0
counted (t ∷ ts) = t.entries + counted ts

-- a history, cut into its turns
abbrev pub cut : List Entry → List SeatTurn → List SeatEntry
cut h [] = []
cut h (t ∷ ts) = record { seat = t.seat; entries = take t.entries h } ∷ cut (drop t.entries h) ts

-- the turns of one seat, in their order
abbrev pub turns_of : ℕ → List SeatEntry → List (List Entry)
turns_of n [] = []
turns_of n (e ∷ es) = if e.seat == n then e.entries ∷ turns_of n es else turns_of n es

-- what all turns added, one behind the other
abbrev pub history_of : List SeatEntry → List Entry
history_of [] = []
history_of (e ∷ es) = e.entries ++ history_of es

-- what came of the seat's job is taken first, where it had one
abbrev pub TakesIn : Option Done → Shown → Shown → Type 0
TakesIn None old new = new ≡ old
TakesIn (Some d) old new = IsTaken old d new

-- Then the board has its turn for the worker of the seat's number. Where something was taken in, that may be all: where the seat leaves the rest to others, or there is no memory for more. So no work is lost.
abbrev pub GoesOn : ℕ → Option Done → Shown → Turn Job → Shown → Type 0
GoesOn seat done old t new = IsTurn seat old t new ⊎ (IsSome done × (t ≡ Met) × (new ≡ old))

abbrev pub nothing_told : Told
nothing_told = record { job = None; over = false }

abbrev pub told_by : Turn Job → Told
told_by (Hands job) = record { job = Some job.slot; over = false }
told_by Met = nothing_told
told_by Rest = nothing_told
told_by Over = record { job = None; over = true }

-- the job that a turn hands out, as a seat has it
abbrev pub held_of : Job → Held
held_of job = record { slot = job.slot; ticket = job.ticket; path = job.path; start = job.top.value }

abbrev pub job_of : Turn Job → Option Held
job_of (Hands job) = Some (held_of job)
job_of Met = None
job_of Rest = None
job_of Over = None

-- what is told of a turn that is refused is nothing
abbrev pub told_of : Result (Turn Job) AllocError → Told
told_of (Ok t) = told_by t
told_of (Err e) = nothing_told

-- a seat's turn: what it added to the history stands in the log, as the last turn, with the number of the seat
pub record IsSeatTurn (seat : ℕ) (done : Option Done) (old : Desk) (t : Turn Job) (new : Desk) : Type 0 where
  pub between : Shown
  pub taken : TakesIn done old.board between
  -- what is known of every board
  pub apart : OutsApart old.board.out
  pub sound : IsSound between.tree
  pub runs : OutsRun between.tree between.out
  pub goes : GoesOn seat done between t new.board
  pub entries : List Entry
  pub history : new.board.history ≡ old.board.history ++ entries
  pub log : new.log ≡ old.log ++ record { seat = seat; entries = entries } ∷ []
  pub told : new.told ≡ told_by t

-- The same over the parts of a desk: the board, and the turns into which its history is cut.
pub record Acts (seat : ℕ) (done : Option Done) (old : Shown) (turns : List SeatTurn) (t : Turn Job) (new : Shown) (turns_then : List SeatTurn) : Type 0 where
  pub between : Shown
  pub taken : TakesIn done old between
  pub apart : OutsApart old.out
  pub sound : IsSound between.tree
  pub runs : OutsRun between.tree between.out
  pub goes : GoesOn seat done between t new
  pub entries : List Entry
  pub history : new.history ≡ old.history ++ entries
  pub one : turns_then ≡ turns ++ record { seat = seat; entries = length entries } ∷ []

abbrev pub Refuses : Option Done → Shown → Shown → Type 0
Refuses None old new = new ≡ old
Refuses (Some d) old new = Sets d.slot None old.out new.out × (new ≡ record old { out = new.out })

-- a turn that is refused for want of memory: the seat's job is out no longer, and nothing else has changed but that it told nothing
abbrev pub IsRefused : Option Done → Desk → Desk → Type 0
IsRefused None old new = new ≡ record old { told = nothing_told }
IsRefused (Some d) old new = Sets d.slot None old.board.out new.board.out × (new ≡ record { board = record old.board { out = new.board.out }; log = old.log; told = nothing_told })
