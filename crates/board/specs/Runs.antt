-- Spaces that may run, listed by the node on which each stands.
-- Our choice: a list for each node, which may have more than it has to, since each path is looked at before it is used.
use Rattle.std.specs.Prelude.{ℕ, List, [], slice_index_or, refl}
use Rattle.std.specs.Coded.{Coded, coded_list, coded×, code_by}
use Rattle.node_places.specs.Places.{Places, coded_places, place_of, home}
use Rattle.path_set.specs.Paths.{Paths, coded_paths, Has}

-- the places of all spaces, and by the number of the node the paths that are listed there
pub record Runs : Type 0 where
  pub places : Places
  pub lists : List Paths

abbrev pub coded_runs : Coded Runs
coded_runs = code_by (Places × List Paths) (coded× coded_places (coded_list coded_paths)) (λ r. (r.places, r.lists)) (λ p. record { places = p.0; lists = p.1 }) (λ _. refl)

-- the paths that are listed for a node
abbrev pub list_on : Runs → ℕ → Paths
list_on r node = slice_index_or r.lists node []

-- a path is listed for the node on which its space stands
abbrev pub HasRun : Runs → List ℕ → Type 0
HasRun r p = Has (list_on r (place_of r.places p)) p

-- what was listed for a node is listed there
abbrev pub HasAllLists : Runs → Runs → Type 0
HasAllLists new old = (node : ℕ) (p : List ℕ) → Has (list_on old node) p → Has (list_on new node) p

-- a path is listed for its home
abbrev pub HasAtHome : Runs → List ℕ → Type 0
HasAtHome r p = Has (list_on r (home r.places.nodes p)) p
