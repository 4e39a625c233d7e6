-- What each call of a board does to it.
-- Our choice: the steps of a scheduler whose history is legal.
use Rattle.std.specs.Prelude.{◌≡◌, ◌≢◌, ◌⊎◌, ℕ, true, ◌+◌, ◌%◌, ◌^◌, List, [], ◌∷◌, ◌++◌, Option, Some, None, option_map}
use Rattle.call_model.specs.Limits.{greatest_depth}
use Rattle.call_model.specs.declared.Call.{Call}
use Rattle.arrayvec.specs.ArrayVec.{ArrayVec}
use Rattle.space_model.specs.Space.{Top, Space}
use Rattle.space_model.specs.Path.{with_top}
use Rattle.space_model.specs.PathOrder.{IsBefore}
use Rattle.run_model.specs.Schedule.{call_at, step}
use Rattle.det_core.specs.declared.entry.Entry.{Entry}
use Rattle.det_core.specs.declared.entry.Entry.TheVariants.{Ran, Moved, Met}
use Rattle.det_core.specs.Legal.{Leads}
use Rattle.node_places.specs.Places.{Places, place_of, home}
use Rattle.parcel_model.specs.Nodes.{node_of}
use Rattle.std.specs.List.{All}
use Rattle.space_model.specs.declared.Await.{Await}
use Rattle.space_model.specs.Meeting.{awaits}
use Rattle.det_laws.specs.Near.{is_awaited}
use Rattle.det_laws.specs.Tops.{top_at}
use Rattle.board.specs.declared.job.Out.{Out}
use Rattle.board.specs.declared.job.Job.{Job}
use Rattle.board.specs.declared.done.Done.{Done}
use Rattle.board.specs.declared.result.Commit.{Commit}
use Rattle.board.specs.declared.result.Commit.TheVariants.{Taken, Stale}
use Rattle.board.specs.Jobs.{out_at, Sets, MayBeTakenOn}
use Rattle.board.specs.Value.{Shown}

-- p is one of them, and each other comes behind it
pub record IsLeast (P : List ℕ → Type 0) (p : List ℕ) : Type 0 where
  pub one : P p
  pub least : (q : List ℕ) → P q → (q ≡ p) ⊎ IsBefore p q

-- a job is put out: its space as it stands in the tree, with the next ticket, in a slot in which nothing was
pub record IsPutOut (old : Shown) (job : Job) (new : Shown) : Type 0 where
  pub top : top_at job.path.items old.tree ≡ Some job.top.value
  pub ticket : job.ticket ≡ old.next_ticket
  pub vacant : out_at old.out job.slot ≡ None
  pub out : Sets job.slot (Some (record { ticket = job.ticket; path = job.path })) old.out new.out
  pub others : new ≡ record old { out = new.out; next_ticket = (old.next_ticket + 1) % 2 ^ 64 }

-- the least space on a node that may be taken is put out
pub record Takes (node : ℕ) (old : Shown) (job : Job) (new : Shown) : Type 0 where
  pub least : IsLeast (MayBeTakenOn old.places node old.tree old.out) job.path.items
  pub is : IsPutOut old job new

-- what came of a job began at the job's path, with what stands there
pub record IsStart (tree : Space) (o : Out) (d : Done) : Type 0 where
  pub path : o.path.items ≡ d.path.items
  pub start : top_at d.path.items tree ≡ Some (let run = d.run in run.start)

-- what came is of the job that is out in its slot: its ticket, its path, and its start as it stands in the tree
pub record IsOfJob (b : Shown) (d : Done) (o : Out) : Type 0 where
  pub out : out_at b.out d.slot ≡ Some o
  pub ticket : o.ticket ≡ d.ticket
  pub start : IsStart b.tree o d

abbrev pub ran : Done → Entry
ran d = Ran d.path (let run = d.run in run.ran)

abbrev pub its_top : Done → Top
its_top d = let run = d.run in run.top

-- what came is the last top of its space, and its events are in the history
pub record IsTaken (old : Shown) (d : Done) (new : Shown) : Type 0 where
  pub job : Out
  pub is : IsOfJob old d job
  pub out : Sets d.slot None old.out new.out
  pub others : new ≡ record old { tree = with_top d.path.items (its_top d) old.tree; history = old.history ++ ran d ∷ []; out = new.out; taken = old.taken + 1 }

-- what came is of another job, or its start is another: where its ticket is that of the slot, the slot's job is out no longer
abbrev pub IsDropped : Option Out → Done → Shown → Shown → Type 0
IsDropped None d old new = new ≡ old
IsDropped (Some o) d old new = (o.ticket ≡ d.ticket → Sets d.slot None old.out new.out × (new ≡ record old { out = new.out })) × ((o.ticket ≡ d.ticket → ⊥) → new ≡ old)

pub record IsStale (old : Shown) (d : Done) (told : Option ℕ) (new : Shown) : Type 0 where
  pub other : (o : Out) → IsOfJob old d o → ⊥
  pub kept : told ≡ option_map (λ (o : Out). o.ticket) (out_at old.out d.slot)
  pub dropped : IsDropped (out_at old.out d.slot) d old new

abbrev pub Commits : Shown → Done → Commit → Shown → Type 0
Commits old d Taken new = IsTaken old d new
Commits old d (Stale kept) new = IsStale old d kept new

-- a call may meet its children
abbrev pub MayMeet : Shown → List ℕ → Type 0
MayMeet b p = (k : Call) × (call_at p greatest_depth b.tree ≡ Some k)

-- the caller goes to the home of the first child that it names, unless it stands there
abbrev pub IsCallersMove : Places → ArrayVec ℕ → List Await → List Entry → Type 0
IsCallersMove ps path [] moves = moves ≡ []
IsCallersMove ps path (a ∷ others) moves =
    let node = node_of a.number ps.nodes in
    ((place_of ps path.items ≡ node) × (moves ≡ [])) ⊎ ((place_of ps path.items ≢ node) × (moves ≡ Moved path node ∷ []))

-- a child that is awaited, and that stands elsewhere, comes home
pub record IsAwayChild (ps : Places) (p : List ℕ) (all : List Await) (q : List ℕ) : Type 0 where
  pub number : ℕ
  pub is : q ≡ p ++ number ∷ []
  pub awaited : is_awaited number all ≡ true
  pub away : place_of ps q ≢ home ps.nodes q

abbrev pub ComesHome : Places → List ℕ → List Await → Entry → Type 0
ComesHome ps p all (Ran path events) = ⊥
ComesHome ps p all (Moved path node) = IsAwayChild ps p all path.items × (node ≡ home ps.nodes path.items)
ComesHome ps p all (Met path) = ⊥

-- the space of one move comes before those of the others, by its path
abbrev pub MovesBefore : List ℕ → Entry → Type 0
MovesBefore p (Ran path events) = ⊥
MovesBefore p (Moved path node) = IsBefore p path.items
MovesBefore p (Met path) = ⊥

abbrev pub AreInOrder : List Entry → Type 0
AreInOrder [] = Unit {0}
AreInOrder (Ran path events ∷ es) = ⊥
AreInOrder (Moved path node ∷ es) = All (MovesBefore path.items) es × AreInOrder es
AreInOrder (Met path ∷ es) = ⊥

-- the moves of a call: first its caller's, then those of awaited children that stand elsewhere, in the order of their numbers
pub record AreMoves (ps : Places) (path : ArrayVec ℕ) (all : List Await) (moves : List Entry) : Type 0 where
  pub callers : List Entry
  pub childrens : List Entry
  pub are : moves ≡ callers ++ childrens
  pub caller : IsCallersMove ps path all callers
  pub home : All (ComesHome ps path.items all) childrens
  pub order : AreInOrder childrens

-- the call at a path has met its children, behind its moves
pub record HasMet (old : Shown) (path : ArrayVec ℕ) (new : Shown) : Type 0 where
  pub call : Call
  pub may : call_at path.items greatest_depth old.tree ≡ Some call
  pub moves : List Entry
  pub are : AreMoves old.places path (awaits call) moves
  -- they lead to the new tree and to the new places, as entries of a history do
  pub led : Leads old.tree old.places (moves ++ Met path ∷ []) new.tree new.places
  pub others : new ≡ record old { tree = step path.items greatest_depth old.tree; places = new.places; history = old.history ++ (moves ++ Met path ∷ []) }

-- the least call that may meet its children has met them
pub record Meets (old : Shown) (path : ArrayVec ℕ) (new : Shown) : Type 0 where
  pub least : IsLeast (MayMeet old) path.items
  pub is : HasMet old path new
