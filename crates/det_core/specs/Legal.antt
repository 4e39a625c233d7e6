-- Histories that a scheduler may write: each entry stands for events that may happen in their turn, or for a space that goes from one node to another.
-- Source: OSDI 2010, "Efficient System-Enforced Deterministic Parallelism", "Distribution via Space Migration": a caller goes to the node that the number
-- of its child names.
-- Our choice: local events in a row at one path, one call, or one move, as the entries of a history; that children which a call awaits come home first.
use Rattle.std.specs.Prelude.{◌≡◌, ℕ, ◌≤◌, ◌<◌, ◌-◌, Bool, true, false, List, [], ◌∷◌, ◌++◌, length, Option, Some, None}
use Rattle.std.specs.List.{All}
use Rattle.call_model.specs.Limits.{greatest_depth, levels_below}
use Rattle.call_model.specs.declared.Call.{Call}
use Rattle.call_model.specs.declared.Call.TheVariants.{PutTree, GetTree, Wait}
use Rattle.space_model.specs.declared.Await.{Await}
use Rattle.space_model.specs.Space.{Space, Top, top_of}
use Rattle.space_model.specs.Stop.{is_stopped}
use Rattle.space_model.specs.Path.{at, with_top}
use Rattle.space_model.specs.Event.{Follows}
use Rattle.space_model.specs.Meeting.{awaits}
use Rattle.parcel_model.specs.Nodes.{node_of}
use Rattle.run_model.specs.Schedule.{call_at, on_child, step}
use Rattle.node_places.specs.Places.{Places, place_of, home, all_home, HasGone, IsLeft}
use Rattle.det_core.specs.declared.entry.Entry.{Entry}
use Rattle.det_core.specs.declared.entry.Entry.TheVariants.{Ran, Moved, Met}

-- so many local events of the space at a path, one at least, lead from s to t
pub record RunsAt (p : List ℕ) (events : ℕ) (s t : Space) : Type 0 where
  pub some : 1 ≤ events
  -- the space there, and its top after them
  pub here : Space
  pub stood : at p s ≡ Some here
  pub top : Top
  pub follows : Follows (levels_below (length p)) events (top_of here) top
  pub now : t ≡ with_top p top s

-- a node is the home of the first child that a call names
abbrev pub IsHomeOfFirst : ℕ → List Await → ℕ → Type 0
IsHomeOfFirst nodes [] node = Unit {0}
IsHomeOfFirst nodes (a ∷ others) node = node ≡ node_of a.number nodes

-- a child of the space at a path stands at home, as far as a space can stand there
abbrev pub IsAtHome : Places → List ℕ → Await → Type 0
IsAtHome ps p a = length p < greatest_depth → place_of ps (p ++ a.number ∷ []) ≡ home ps.nodes (p ++ a.number ∷ [])

-- the caller stands at the home of the first child that its call names, and each child that the call awaits stands at home
pub record IsGathered (ps : Places) (p : List ℕ) (all : List Await) : Type 0 where
  pub caller : IsHomeOfFirst ps.nodes all (place_of ps p)
  pub children : All (IsAtHome ps p) all

-- where a call puts a copy, or takes a space away: a path from the caller on
abbrev pub replaced : Call → Option (List ℕ)
replaced (PutTree child from to) = Some (child ∷ to ∷ [])
replaced (GetTree child from to) = Some (to ∷ [])
replaced (Wait child) = Some (child ∷ [])
replaced k = None

-- what stands at a path, and below it, stands at home, as far as a space can stand there; every other space stands where it did
pub record IsCopied (p : List ℕ) (ps qs : Places) : Type 0 where
  pub here : length p ≤ greatest_depth → IsLeft p ps qs
  pub deeper : greatest_depth < length p → qs ≡ ps

-- what a call copied stands at home; a call that stopped its caller copied nothing
abbrev pub AreCopied : Bool → List ℕ → Option (List ℕ) → Places → Places → Type 0
AreCopied true p o ps qs = qs ≡ ps
AreCopied false p None ps qs = qs ≡ ps
AreCopied false p (Some r) ps qs = IsCopied (p ++ r) ps qs

-- the space at a path has stopped
abbrev pub has_stopped : List ℕ → Space → Bool
has_stopped p s = on_child (λ c. let t = top_of c in is_stopped t.status) (at p s)

-- the call at a path may meet its children, which are gathered, and its meeting leads from s to t
pub record MeetsAt (p : List ℕ) (s t : Space) (ps qs : Places) : Type 0 where
  pub call : Call
  pub may : call_at p greatest_depth s ≡ Some call
  pub now : t ≡ step p greatest_depth s
  pub gathered : IsGathered ps p (awaits call)
  pub copied : AreCopied (has_stopped p t) p (replaced call) ps qs

-- a space goes to a node
pub record MovesAt (p : List ℕ) (node : ℕ) (s t : Space) (ps qs : Places) : Type 0 where
  pub now : t ≡ s
  pub there : node < ps.nodes
  pub gone : HasGone p node ps qs

abbrev pub Happens : Entry → Space → Places → Space → Places → Type 0
Happens (Ran path events) s ps t qs = RunsAt path.items events s t × (qs ≡ ps)
Happens (Moved path node) s ps t qs = MovesAt path.items node s t ps qs
Happens (Met path) s ps t qs = MeetsAt path.items s t ps qs

-- the entries lead from one tree, with its spaces in their places, to another, in their order
abbrev pub Leads : Space → Places → List Entry → Space → Places → Type 0
Leads s ps [] t qs = (s ≡ t) × (ps ≡ qs)
Leads s ps (e ∷ es) t qs = (next : Space) × (there : Places) × Happens e s ps next there × Leads next there es t qs

-- the entries lead to a tree, with its spaces in their places, from boot, all of whose spaces stand at home
abbrev pub IsHistory : ℕ → Space → List Entry → Space → Places → Type 0
IsHistory nodes boot es tree places = Leads boot (all_home nodes) es tree places

-- the entries lead from boot to a tree, on so many nodes
abbrev pub Legal : ℕ → Space → List Entry → Space → Type 0
Legal nodes boot es tree = (places : Places) × IsHistory nodes boot es tree places
