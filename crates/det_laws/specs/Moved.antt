-- Tops that are moved out of a tree, and put back.
-- Our choice: a top in another's place stands for a space that goes on elsewhere; it has stopped, so nothing may happen there.
use Rattle.std.specs.Prelude.{◌≡◌, ◌≢◌, ℕ, true, false, List, [], ◌∷◌, Some, map}
use Rattle.std.specs.List.{All}
use Rattle.space_model.specs.Stop.{is_stopped}
use Rattle.space_model.specs.Space.{Top, Space}
use Rattle.space_model.specs.Path.{at, with_top}
use Rattle.det_laws.specs.Tops.{top_at}

-- a top and the path at which it stands
abbrev pub Placed : Type 0
Placed = List ℕ × Top

abbrev pub paths_of : List Placed → List (List ℕ)
paths_of xs = map (λ x. x.0) xs

-- a tree with other tops at these paths
abbrev pub with_tops : List Placed → Space → Space
with_tops [] s = s
with_tops (x ∷ xs) s = with_top x.0 x.1 (with_tops xs s)

-- no path stands twice
abbrev pub AreApart : List (List ℕ) → Type 0
AreApart [] = Unit {0}
AreApart (p ∷ ps) = All (λ q. p ≢ q) ps × AreApart ps

-- a space stands at a path
abbrev pub HasSpace : Space → List ℕ → Type 0
HasSpace s p = (c : Space) × (at p s ≡ Some c)

-- one that has stopped
abbrev pub HasStopped : Space → List ℕ → Type 0
HasStopped s p = (t : Top) × (top_at p s ≡ Some t) × (is_stopped t.status ≡ true)

-- one that runs
abbrev pub HasRunning : Space → List ℕ → Type 0
HasRunning s p = (t : Top) × (top_at p s ≡ Some t) × (is_stopped t.status ≡ false)

-- the top that runs at a path is out, and one that has stopped stands there
pub record IsTaken (p : List ℕ) (t : Top) (old new : Space) : Type 0 where
  pub stood : top_at p old ≡ Some t
  pub runs : is_stopped t.status ≡ false
  pub other : Top
  pub stopped : is_stopped other.status ≡ true
  pub now : new ≡ with_top p other old

-- these tops of `start` are out of `now`: whatever tops are put at their paths, it is as if they had been put into `start`
pub record AreOut (out : List Placed) (start now : Space) : Type 0 where
  pub apart : AreApart (paths_of out)
  pub stood : All (λ x. top_at x.0 start ≡ Some x.1) out
  pub held : All (HasStopped now) (paths_of out)
  pub back : (ts : List Placed) → paths_of ts ≡ paths_of out → with_tops ts now ≡ with_tops ts start
