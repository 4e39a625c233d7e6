-- A caller and the children that its call awaits, as they are brought together before they meet.
-- Source: OSDI 2010, "Efficient System-Enforced Deterministic Parallelism", "Distribution via Space Migration".
-- Our choice: they meet at the home of the first child that the call names, and children that are elsewhere come home.
use Rattle.std.specs.Prelude.{◌≡◌, ◌≢◌, ◌⊎◌, ℕ, ◌<◌, ◌≤◌, Bool, true, false, List, [], ◌∷◌, ◌++◌, length, Option, Some, None}
use Rattle.std.specs.List.{All}
use Rattle.arrayvec.specs.ArrayVec.{ArrayVec}
use Rattle.call_model.specs.Limits.{greatest_depth}
use Rattle.call_model.specs.declared.Call.{Call}
use Rattle.space_model.specs.Space.{Space}
use Rattle.space_model.specs.declared.Await.{Await}
use Rattle.parcel_model.specs.Nodes.{node_of}
use Rattle.node_places.specs.Places.{Places, place_of, home, HasGone, IsAbove}
use Rattle.det_core.specs.declared.entry.Entry.{Entry}
use Rattle.det_core.specs.declared.entry.Entry.TheVariants.{Ran, Moved, Met}
use Rattle.det_core.specs.Legal.{Leads, IsAtHome, replaced}
use Rattle.run_model.specs.Schedule.{step}
use Rattle.space_model.specs.Meeting.{awaits}
use Rattle.det_laws.specs.Near.{IsAwaitedBelow}
use Rattle.path_set.specs.Paths.{Paths, Has}
use Rattle.board.specs.Steps.{IsAwayChild, AreInOrder, AreMoves}

-- the node on which a caller meets the children that its call awaits; one that awaits none stays where it is
abbrev pub MeetsOn : Places → List ℕ → List Await → ℕ → Type 0
MeetsOn ps p [] node = node ≡ place_of ps p
MeetsOn ps p (a ∷ others) node = node ≡ node_of a.number ps.nodes

-- an awaited child stands at home, or is one of those that do not
abbrev pub IsHomeOrAway : Places → List ℕ → Paths → Await → Type 0
IsHomeOrAway ps p away a = IsAtHome ps p a ⊎ Has away (p ++ a.number ∷ [])

-- the paths of the awaited children that do not stand at home
pub record AreAway (ps : Places) (p : List ℕ) (all : List Await) (away : Paths) : Type 0 where
  pub only : (q : List ℕ) → Has away q → IsAwayChild ps p all q
  pub each : All (IsHomeOrAway ps p away) all

-- where a copy is put or a space is taken away, as far as a space can stand there
abbrev pub IsReplaced : List ℕ → Option (List ℕ) → Option (ArrayVec ℕ) → Type 0
IsReplaced p None None = Unit {0}
IsReplaced p None (Some x) = ⊥
IsReplaced p (Some r) None = greatest_depth < length (p ++ r)
IsReplaced p (Some r) (Some x) = (x.items ≡ p ++ r) × (length (p ++ r) ≤ greatest_depth)

-- a path does not lead to where a copy is put, or below it
abbrev pub IsBeside : List ℕ → Option (List ℕ) → List ℕ → Type 0
IsBeside p None q = Unit {0}
IsBeside p (Some r) q = IsAbove (p ++ r) q → ⊥

-- a space has gone to a node, unless it stands there
abbrev pub HasGoneIf : Bool → List ℕ → ℕ → Places → Places → Type 0
HasGoneIf true p node ps qs = (place_of ps p ≢ node) × HasGone p node ps qs
HasGoneIf false p node ps qs = (place_of ps p ≡ node) × (qs ≡ ps)

-- a move of one of these spaces, to its home
abbrev pub IsMoveHome : ℕ → Paths → Entry → Type 0
IsMoveHome nodes away (Ran path events) = ⊥
IsMoveHome nodes away (Moved path node) = Has away path.items × (node ≡ home nodes path.items)
IsMoveHome nodes away (Met path) = ⊥

-- these spaces have come home, in their order, and each has a move in the history
pub record BroughtHome (away : Paths) (ps qs : Places) (es fs : List Entry) : Type 0 where
  pub moves : List Entry
  pub items : fs ≡ es ++ moves
  pub led : (s : Space) → Leads s ps moves s qs
  pub here : (q : List ℕ) → Has away q → place_of qs q ≡ home ps.nodes q
  pub others : (q : List ℕ) → (Has away q → ⊥) → place_of qs q ≡ place_of ps q
  pub nodes : qs.nodes ≡ ps.nodes
  pub are : All (IsMoveHome ps.nodes away) moves
  pub order : AreInOrder moves

-- the call at a path has met its children, behind its moves, each of which is an entry of the history; and where each space stands since
pub record HasMetBy (path : ArrayVec ℕ) (k : Call) (node : ℕ) (s : Space) (ps : Places) (es : List Entry) (t : Space) (qs : Places) (fs : List Entry) : Type 0 where
  pub now : t ≡ step path.items greatest_depth s
  pub moves : List Entry
  pub are : AreMoves ps path (awaits k) moves
  pub items : fs ≡ es ++ (moves ++ Met path ∷ [])
  pub led : Leads s ps (moves ++ Met path ∷ []) t qs
  pub caller : place_of qs path.items ≡ node
  pub children : (q : List ℕ) → length q ≤ greatest_depth → IsAwaitedBelow (awaits k) q path.items → place_of qs q ≡ home ps.nodes q
  pub others : (q : List ℕ) → (q ≡ path.items → ⊥) → (IsAwaitedBelow (awaits k) q path.items → ⊥) → IsBeside path.items (replaced k) q → place_of qs q ≡ place_of ps q
