-- Where a board looks: sets that have at least all paths at which an event may happen.
-- Our choice: a set may have more, since each path is looked at before it is used.
use Rattle.std.specs.Prelude.{◌≡◌, ◌⊎◌, ◌≤◌, ℕ, Bool, true, List, ◌∷◌, ◌++◌, Some, length}
use Rattle.call_model.specs.Limits.{greatest_depth}
use Rattle.call_model.specs.declared.Call.{Call}
use Rattle.space_model.specs.Space.{Space}
use Rattle.run_model.specs.Schedule.{is_local_at, call_at, is_enabled}
use Rattle.space_model.specs.Sound.{IsSoundAt}
use Rattle.space_model.specs.declared.Await.{Await}
use Rattle.det_laws.specs.Near.{IsOnWay, IsAwaitedBelow}
use Rattle.path_set.specs.Paths.{Paths, Has}
use Rattle.board.specs.Runs.{Runs, HasRun}
use Rattle.board.specs.Jobs.{Slots, out_at, IsOut}
use Rattle.board.specs.declared.job.Out.{Out}

-- a path on the way to one at which something new has happened
abbrev pub IsOnNews : Paths → List ℕ → Type 0
IsOnNews news p = (q : List ℕ) × Has news q × IsOnWay p q

-- each space that has local events is listed for the node on which it stands, or is news, or is out
abbrev pub ListsRunning : Space → Runs → Paths → Slots → Type 0
ListsRunning tree run news out = (p : List ℕ) → is_local_at p greatest_depth tree ≡ true → HasRun run p ⊎ (Has news p ⊎ IsOut out p)

-- each call that may meet its children is listed
abbrev pub ListsCalls : Space → Paths → Paths → Type 0
ListsCalls tree calls news = (p : List ℕ) (k : Call) → call_at p greatest_depth tree ≡ Some k → Has calls p ⊎ IsOnNews news p

-- these are the paths of the jobs that are out, and no others
abbrev pub AreOut : Paths → Slots → Type 0
AreOut work out = ((p : List ℕ) → Has work p → IsOut out p) × ((p : List ℕ) → IsOut out p → Has work p)

-- each space that is out has local events
abbrev pub OutsRun : Space → Slots → Type 0
OutsRun tree out = (p : List ℕ) → IsOut out p → is_local_at p greatest_depth tree ≡ true

-- and no space is out twice
abbrev pub OutsApart : Slots → Type 0
OutsApart out = (i j : ℕ) (o r : Out) → out_at out i ≡ Some o → out_at out j ≡ Some r → o.path.items ≡ r.path.items → i ≡ j

pub record IsListed (tree : Space) (run : Runs) (calls news : Paths) (out : Slots) : Type 0 where
  pub running : ListsRunning tree run news out
  pub meeting : ListsCalls tree calls news
  pub goes : OutsRun tree out
  pub apart : OutsApart out

-- which paths are listed: at least all that were
abbrev pub HasAll : (List ℕ → Type 0) → (List ℕ → Type 0) → Type 0
HasAll new old = (p : List ℕ) → old p → new p

-- all that stand on the way to a path
abbrev pub HasWay : (List ℕ → Type 0) → List ℕ → Type 0
HasWay has q = (p : List ℕ) → IsOnWay p q → has p

-- all children of q that are awaited, as far as a space can stand there
abbrev pub HasAwaited : (List ℕ → Type 0) → List Await → List ℕ → Type 0
HasAwaited has all q = (p : List ℕ) → length p ≤ greatest_depth → IsAwaitedBelow all p q → has p

-- a space that is sound with so many levels of children left below it
abbrev pub IsSoundSomewhere : ℕ → Space → Type 0
IsSoundSomewhere levels s = (root : Bool) × (fuel : ℕ) × IsSoundAt levels root fuel s

-- each path from a space on, which stands at q, at which an event may happen
abbrev pub HasEnabled : (List ℕ → Type 0) → List ℕ → ℕ → Space → Type 0
HasEnabled has q levels s = (p : List ℕ) → is_enabled p levels s ≡ true → has (q ++ p)

-- and each from its child of this number on
abbrev pub HasEnabledBelow : (List ℕ → Type 0) → List ℕ → ℕ → ℕ → Space → Type 0
HasEnabledBelow has q levels number s = (p : List ℕ) → is_enabled (number ∷ p) levels s ≡ true → has (q ++ number ∷ p)
