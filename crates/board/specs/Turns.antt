-- What a turn of a board is, and what comes of a job that a worker does.
-- Our choice: calls that may meet their children come before spaces that may be taken, which go on in their place before they are put out; and a board is over where nothing may happen any
-- more and no job is out.
use Rattle.std.specs.Prelude.{◌≡◌, ◌≢◌, ◌⊎◌, ℕ, ◌+◌, ◌-◌, ◌%◌, ◌≤◌, ◌<◌, nat_lt, if◌then◌else◌, true, Bool, false, List, Some, None}
use Rattle.arrayvec.specs.ArrayVec.{ArrayVec}
use Rattle.call_model.specs.Limits.{greatest_depth, levels_below}
use Rattle.space_model.specs.Space.{is_settled}
use Rattle.space_model.specs.Event.{next, IsNotLocal}
use Rattle.run_model.specs.Schedule.{call_at}
use Rattle.node_places.specs.Places.{place_of}
use Rattle.worker_pool.specs.declared.shop.Turn.{Turn}
use Rattle.worker_pool.specs.declared.shop.Turn.TheVariants.{Job as Hands, Met, Rest, Over}
use Rattle.worker_pool.specs.declared.shop.Worked.{Worked}
use Rattle.worker_pool.specs.declared.shop.Worked.TheVariants.{Ended, Lasts}
use Rattle.board.specs.declared.job.Out.{Out}
use Rattle.board.specs.declared.job.Job.{Job}
use Rattle.board.specs.declared.done.Done.{Done}
use Rattle.board.specs.declared.result.Commit.{Commit}
use Rattle.board.specs.declared.result.Commit.TheVariants.{Taken, Stale}
use Rattle.board.specs.declared.working.TheConstants.{QUANTUM, FIRST_EVENTS}
use Rattle.board.specs.Jobs.{Slots, out_at, IsNoneOut, MayBeTaken, MayBeTakenOn}
use Rattle.board.specs.Value.{Shown}
use Rattle.board.specs.Steps.{IsLeast, IsPutOut, Meets, Commits}
use Rattle.board.specs.GoingOn.{HasGoneOn}

-- how many results were taken
abbrev pub accepted : Shown → ℕ
accepted b = b.taken

-- no job is out, and no space runs
abbrev pub IsFinished : Shown → Type 0
IsFinished b = IsNoneOut b.out × (is_settled b.tree ≡ true)

-- no call may meet its children
abbrev pub NoneMayMeet : Shown → Type 0
NoneMayMeet b = (p : List ℕ) → call_at p greatest_depth b.tree ≡ None

-- no call may meet its children, and no space may be taken
abbrev pub IsIdle : Shown → Type 0
IsIdle b = NoneMayMeet b × ((p : List ℕ) → MayBeTaken b.tree b.out p → ⊥)

-- some job is out
abbrev pub IsSomeOut : Slots → Type 0
IsSomeOut out = (slot : ℕ) × (o : Out) × (out_at out slot ≡ Some o)

-- this job is out, and no other
pub record IsOnlyOut (out : Slots) (job : Job) : Type 0 where
  pub there : (o : Out) × (out_at out job.slot ≡ Some o) × (o.ticket ≡ job.ticket)
  pub others : (slot : ℕ) → slot ≢ job.slot → out_at out slot ≡ None

-- a space that may be taken is put out as a job, which is owed from then on
pub record HandsOut (old : Shown) (job : Job) (new : Shown) : Type 0 where
  pub may : MayBeTaken old.tree old.out job.path.items
  pub put : Shown
  pub is : IsPutOut old job put
  pub owed : new ≡ record put { owed = old.owed + 1 }

-- that space is handed out, or it is not, and nothing has changed
abbrev pub HandsOn : Shown → ArrayVec ℕ → Turn Job → Shown → Type 0
HandsOn old path Met new = new ≡ old
HandsOn old path (Hands job) new = (job.path ≡ path) × HandsOut old job new
HandsOn old path Rest new = ⊥
HandsOn old path Over new = ⊥

-- the least space on a node that may be taken has gone on in its place
pub record LeastGoesOn (node : ℕ) (old : Shown) (path : ArrayVec ℕ) (new : Shown) : Type 0 where
  pub least : IsLeast (MayBeTakenOn old.places node old.tree old.out) path.items
  pub events : ℕ
  pub gone : HasGoneOn old path events new

-- the least space on a node that may be taken has gone on in its place, and that is all, or it is handed out as it stands then
abbrev pub GoesOnNode : ℕ → Shown → Turn Job → Shown → Type 0
GoesOnNode node old Met new = (path : ArrayVec ℕ) × LeastGoesOn node old path new
GoesOnNode node old (Hands job) new = (gone : Shown) × LeastGoesOn node old job.path gone × HandsOut gone job new
GoesOnNode node old Rest new = ⊥
GoesOnNode node old Over new = ⊥

-- how far a node is from a first one, where they are gone through in a ring
abbrev pub distance : ℕ → ℕ → ℕ → ℕ
distance nodes first node = if nat_lt node first then node + (nodes - first) else node - first

-- no space may be taken on the nodes that come before this one, from a first node on
abbrev pub NoneBefore : Shown → ℕ → ℕ → Type 0
NoneBefore b first node =
    (p : List ℕ) → distance b.places.nodes first (place_of b.places p) < distance b.places.nodes first node → MayBeTaken b.tree b.out p → ⊥

-- no space may be taken on the nodes from one on to another
abbrev pub NoneAmong : Shown → ℕ → ℕ → Type 0
NoneAmong b from to = (p : List ℕ) → from ≤ place_of b.places p → place_of b.places p < to → MayBeTaken b.tree b.out p → ⊥

-- the least space that may be taken goes on, on the first of these nodes that has any
pub record GoesOnAmong (from to : ℕ) (old : Shown) (t : Turn Job) (new : Shown) : Type 0 where
  pub node : ℕ
  pub within : (from ≤ node) × (node < to)
  pub none : NoneAmong old from node
  pub goes : GoesOnNode node old t new

-- the least space that may be taken on a node goes on, on the first node from this one on that has any
pub record GoesOnFrom (first : ℕ) (old : Shown) (t : Turn Job) (new : Shown) : Type 0 where
  pub node : ℕ
  pub there : node < old.places.nodes
  pub none : NoneBefore old first node
  pub goes : GoesOnNode node old t new

-- The least call that may meet its children has met them. Where there is none, a space that may be taken goes on, from the node of the worker on, and is handed out where it
-- has more events. Where there is none either, nothing changes: it is over where the board is finished, and a job is out else.
abbrev pub IsTurn : ℕ → Shown → Turn Job → Shown → Type 0
IsTurn worker old Met new = ((path : ArrayVec ℕ) × Meets old path new) ⊎ (NoneMayMeet old × GoesOnFrom (worker % old.places.nodes) old Met new)
IsTurn worker old (Hands job) new = NoneMayMeet old × GoesOnFrom (worker % old.places.nodes) old (Hands job) new
IsTurn worker old Rest new = IsIdle old × IsSomeOut old.out × (new ≡ old)
IsTurn worker old Over new = IsFinished old × (new ≡ old)

-- a turn whose job has lost its name
abbrev pub bare : {A : Type 0} → (A → Job) → Turn A → Turn Job
bare job_of Met = Met
bare job_of (Hands named) = Hands (job_of named)
bare job_of Rest = Rest
bare job_of Over = Over

abbrev pub is_over : Turn Job → Bool
is_over Met = false
is_over (Hands job) = false
is_over Rest = false
is_over Over = true

abbrev pub is_taken : Commit → Bool
is_taken Taken = true
is_taken (Stale kept) = false

-- a result is handed in: one job fewer is owed, if any was
abbrev pub handed_in : Shown → Shown
handed_in b = record b { owed = b.owed - 1 }

abbrev pub HandsIn : Shown → Done → Bool → Shown → Type 0
HandsIn old d taken new = (c : Commit) × (taken ≡ is_taken c) × Commits (handed_in old) d c new

-- what comes of a job, or of its beginning: it names the job's slot, ticket and path, and has local events of its space from the job's start on
pub record IsFor (job : Job) (d : Done) : Type 0 where
  pub slot : d.slot ≡ job.slot
  pub ticket : d.ticket ≡ job.ticket
  pub path : d.path ≡ job.path
  pub start : (let run = d.run in run.start) ≡ job.top.value

-- at most so many events, and fewer only where what is next is no local event
abbrev pub HasHad : ℕ → Done → Type 0
HasHad quantum d = ((let run = d.run in run.ran) ≤ quantum) × ((let run = d.run in run.ran) < quantum → IsNotLocal (next (levels_below (let run = d.run in run.depth)) (let run = d.run in run.top)))

-- what comes of a job: a quantum of events, or fewer where what is next is no local event
abbrev pub IsOf : Job → Done → Type 0
IsOf job d = IsFor job d × HasHad QUANTUM d

-- the first events of a job: all that it has, or as many as a job has that lasts
abbrev pub Begins : Job → Worked Done → Type 0
Begins job (Ended d) = IsOf job d
Begins job (Lasts d) = IsFor job d × ((let run = d.run in run.ran) ≡ FIRST_EVENTS)

-- what comes of a job that lasts, once its space has gone on
pub record GoesOn (d e : Done) : Type 0 where
  pub slot : e.slot ≡ d.slot
  pub ticket : e.ticket ≡ d.ticket
  pub path : e.path ≡ d.path
  pub start : (let run = e.run in run.start) ≡ (let run = d.run in run.start)
  pub events : (let run = d.run in run.ran) ≤ QUANTUM → HasHad QUANTUM e
