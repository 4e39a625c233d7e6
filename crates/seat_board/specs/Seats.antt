-- What the seats of a board know of it, between any two turns.
-- Source: Mellor-Crummey and Scott, TOCS 1991, ticket locks; OSDI 2010, "Efficient System-Enforced Deterministic Parallelism".
-- Our choice: each seat knows its own job, its own turns and the tree that the board began with; so nothing is compared when a job comes back, nor at the end.
use Rattle.std.specs.Prelude.{◌≡◌, ℕ, ◌+◌, ◌≤◌, ◌<◌, ◌||◌, ◌==◌, if◌then◌else◌, Bool, true, false, List, [], ◌∷◌, ◌++◌, map, drop, length, Option, Some, None, option_map}
use Rattle.std.specs.List.{All}
use Rattle.std.proofs.Common.{arith}
use mathlib.Core.Option.{some}
use lib.ListN.{get_elem?}
use Rattle.space_model.specs.Space.{Top}
use Rattle.det_laws.specs.Tops.{top_at}
use Rattle.det_core.specs.declared.entry.Entry.{Entry}
use Rattle.board.specs.declared.job.Out.{Out}
use Rattle.board.specs.declared.done.Done.{Done}
use Rattle.board.specs.Jobs.{out_at}
use Rattle.board.specs.Turns.{IsFinished}
use Rattle.board.specs.Value.{Shown}
use Rattle.ticket_lock.specs.Rule.{total}
use Rattle.seat_board.specs.declared.known.Known.{Known}
use Rattle.seat_board.specs.Held.{Held, Ended}
use Rattle.seat_board.specs.Desk.{Desk, SeatEntry, turns_of}

-- a seat's job is out in its slot, and its state stands in the tree at its path
abbrev pub IsHeld : Shown → Held → Type 0
IsHeld b h = (out_at b.out h.slot ≡ Some (record { ticket = h.ticket; path = h.path })) × (top_at h.path.items b.tree ≡ Some h.start)

-- the job that is out in a slot, with its state as it stands in the tree
abbrev pub held_by : ℕ → Out → Option Top → Option Held
held_by slot o t = option_map (λ (x : Top). record { slot = slot; ticket = o.ticket; path = o.path; start = x }) t

abbrev pub held_from : Shown → ℕ → Option Out → Option Held
held_from b slot None = None
held_from b slot (Some o) = held_by slot o (top_at o.path.items b.tree)

abbrev pub held_in : Shown → Option ℕ → Option Held
held_in b None = None
held_in b (Some slot) = held_from b slot (out_at b.out slot)

-- what was added to a log
abbrev pub added : List SeatEntry → List SeatEntry → List (List Entry)
added old new = map (λ (e : SeatEntry). e.entries) (drop (length old) new)

-- what a seat knows once its turn has ended: its job is the one that the turn handed out, and what its turn added is the last of its turns
abbrev pub after : Known → Desk → Desk → Known
after c found given = record c { job = held_in given.board (let told = given.told in told.job); turns = c.turns ++ added found.log given.log; over = c.over || (let told = given.told in told.over) }

-- What came of a job is handed in exactly where a seat has one: it names its slot, ticket and path, and began with its state.
pub record IsOfHeld (h : Held) (d : Done) : Type 0 where
  pub slot : d.slot ≡ h.slot
  pub ticket : d.ticket ≡ h.ticket
  pub path : d.path ≡ h.path
  pub start : (let run = d.run in run.start) ≡ h.start

abbrev pub IsDoneOf : Option Held → Option Done → Type 0
IsDoneOf None None = Unit {0}
IsDoneOf None (Some d) = ⊥
IsDoneOf (Some h) None = ⊥
IsDoneOf (Some h) (Some d) = IsOfHeld h d

-- how many seats live
abbrev pub one_if : Bool → ℕ
one_if true = 1
one_if false = 0

abbrev pub living : List Known → ℕ
living cs = total (λ (c : Known). one_if c.lives) cs

-- a seat that has ended: what it had of turns, and that it lives no longer
pub record IsEnded (d : Desk) (cs : List Known) (e : Ended) : Type 0 where
  pub turns : e.turns ≡ turns_of e.number d.log
  pub there : e.number < length cs
  pub gone : (w : Known) → get_elem? cs e.number ≡ some w → w.lives ≡ false

-- how often a number is in a list
abbrev pub times : ℕ → List ℕ → ℕ
times n [] = 0
times n (x ∷ xs) = if x == n then 1 + times n xs else times n xs

-- each number below a count is in a list once
abbrev pub EachOnce : ℕ → List ℕ → Type 0
EachOnce count xs = (n : ℕ) → n < count → times n xs ≡ 1

-- the numbers of seats that have ended
abbrev pub numbers : List Ended → List ℕ
numbers es = map (λ (e : Ended). e.number) es

-- Seat 0 knows how many numbers were given. Each of them is there once: as the number of a seat that lives, or among those that have ended.
pub record IsCount (cs : List Known) (c : Known) : Type 0 where
  pub given : c.given ≡ length cs
  pub once : (n : ℕ) (w : Known) → get_elem? cs n ≡ some w → one_if w.lives + times n (numbers c.ended) ≡ 1

-- The board is as its seats know, which stand in the order of their numbers.
pub record Fits (d : Desk) (cs : List Known) : Type 0 where
  pub few : length cs ≤ 64
  pub number : (i : ℕ) (c : Known) → get_elem? cs i ≡ some c → c.lives ≡ true → c.number ≡ i
  pub count : (c : Known) → get_elem? cs 0 ≡ some c → IsCount cs c
  -- all name one tree as the one that the board began with
  pub boot : (i : ℕ) (c : Known) → get_elem? cs i ≡ some c → c.lives ≡ true → (c.boot ≡ Some d.board.boot) × (c.nodes ≡ (let places = d.board.places in places.nodes))
  -- each job of a seat is out, no two seats have one, and no other is out
  pub jobs : (i : ℕ) (c : Known) (h : Held) → get_elem? cs i ≡ some c → c.job ≡ Some h → IsHeld d.board h
  pub apart : (i j : ℕ) (c e : Known) (g h : Held) → get_elem? cs i ≡ some c → get_elem? cs j ≡ some e → c.job ≡ Some g → e.job ≡ Some h → g.slot ≡ h.slot → i ≡ j
  pub all : (slot : ℕ) (o : Out) → out_at d.board.out slot ≡ Some o → (i : ℕ) × (c : Known) × (h : Held) × (get_elem? cs i ≡ some c) × (c.job ≡ Some h) × (h.slot ≡ slot)
  -- the turns of each are its turns in the log; no number that was not given has any
  pub turns : (i : ℕ) (c : Known) → get_elem? cs i ≡ some c → c.lives ≡ true → c.turns ≡ turns_of i d.log
  pub ended : (i : ℕ) (c : Known) → get_elem? cs i ≡ some c → All (IsEnded d cs) c.ended
  pub fresh : (n : ℕ) → length cs ≤ n → turns_of n d.log ≡ []
  -- where one was told that the board is over, it is
  pub over : (i : ℕ) (c : Known) → get_elem? cs i ≡ some c → c.over ≡ true → IsFinished d.board

abbrev pub lives : Known → Bool
lives c = c.lives

-- the caller's count goes up, and the newcomer has the next number
abbrev pub counted_up : Known → Known
counted_up c = record c { given = c.given + 1 }

abbrev pub newcomer : Known → Known
newcomer c = record { marker = record {}; number = c.given; lives = true; boot = c.boot; nodes = c.nodes; job = None; turns = []; over = false; given = 0; ended = [] }

-- seat 0 takes in another, with its number and turns, and notes that the board is over where either did
abbrev pub taken_in : Known → Known → Known
taken_in c e = record c { over = c.over || e.over; ended = c.ended ++ record { number = e.number; turns = e.turns } ∷ [] }

-- what is left of one that was taken in
abbrev pub spent : Known
spent = record { marker = record {}; number = 0; lives = false; boot = None; nodes = 0; job = None; turns = []; over = false; given = 0; ended = [] }

-- there are at most 64 seats
pub few_seats : (x : Desk) (cs : List Known) → Fits x cs → length cs < 4294967296
few_seats x cs fits = let f = fits.few in omega (arith, f)
