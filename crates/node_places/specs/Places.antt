-- On which node each space of a tree stands: at home, but for those that went to another node.
-- Source: OSDI 2010, "Efficient System-Enforced Deterministic Parallelism", "Distribution via Space Migration".
-- Our choice: the spaces that are not at home are listed, each with its node, and one that has come home may stay listed for a while; a space that is made
-- or copied stands at home.
use Rattle.std.specs.Prelude.{◌≡◌, ◌≢◌, ℕ, ◌==◌, ◌&&◌, ◌<◌, ◌≤◌, Bool, true, false, if◌then◌else◌, List, [], ◌∷◌, map, Option, Some, None, refl}
use Rattle.std.specs.Coded.{Coded, code_by, coded_ℕ, coded_list, coded×}
use Rattle.std.specs.Ordering.{nat_cmp, match_ordering}
use Rattle.std.specs.Cmp.Lexicographic.{slice_cmp}
use Rattle.arrayvec.specs.ArrayVec.{ArrayVec}
use Rattle.parcel_model.specs.Nodes.{node_of}

-- the nodes, by their count, and the spaces that are listed, by their paths, each with the node on which it stands
pub record Places : Type 0 where
  pub nodes : ℕ
  pub away : List (List ℕ × ℕ)

-- what stands for them in proofs: the pair of the two
abbrev pub coded_places : Coded Places
coded_places =
    code_by (ℕ × List (List ℕ × ℕ)) (coded× coded_ℕ (coded_list (coded× (coded_list coded_ℕ) coded_ℕ))) (λ s. (s.nodes, s.away)) (λ p. record { nodes = p.0; away = p.1 }) (λ _. refl)

-- the paths in a map's entries, as lists of numbers
abbrev pub away_in : List (ArrayVec ℕ × ℕ) → List (List ℕ × ℕ)
away_in es = map (λ e. (e.0.items, e.1)) es

-- two paths are one
abbrev pub is_path : List ℕ → List ℕ → Bool
is_path [] [] = true
is_path [] (m ∷ q) = false
is_path (n ∷ p) [] = false
is_path (n ∷ p) (m ∷ q) = (n == m) && is_path p q

-- the node that is listed for a path
abbrev pub listed : List (List ℕ × ℕ) → List ℕ → Option ℕ
listed [] p = None
listed (x ∷ others) p = if is_path p x.0 then Some x.1 else listed others p

-- the home of the space at a path: the node that its number names; the root's is node 0
abbrev pub home : ℕ → List ℕ → ℕ
home nodes [] = 0
home nodes (n ∷ []) = node_of n nodes
home nodes (n ∷ m ∷ p) = home nodes (m ∷ p)

abbrev pub or_home : Option ℕ → ℕ → ℕ
or_home None node = node
or_home (Some other) node = other

-- the node on which the space at a path stands
abbrev pub place_of : Places → List ℕ → ℕ
place_of s p = or_home (listed s.away p) (home s.nodes p)

-- p is q, or stands above it
abbrev pub IsAbove : List ℕ → List ℕ → Type 0
IsAbove [] q = Unit {0}
IsAbove (n ∷ p) [] = ⊥
IsAbove (n ∷ p) (m ∷ q) = (n ≡ m) × IsAbove p q

-- the space at this path stands on that node now, and each other where it did
pub record HasGone (p : List ℕ) (node : ℕ) (old new : Places) : Type 0 where
  pub here : place_of new p ≡ node
  pub others : (q : List ℕ) → q ≢ p → place_of new q ≡ place_of old q
  pub nodes : new.nodes ≡ old.nodes

-- the spaces at this path and below it stand at home now, and each other where it did
pub record IsLeft (p : List ℕ) (old new : Places) : Type 0 where
  pub here : (q : List ℕ) → IsAbove p q → place_of new q ≡ home new.nodes q
  pub others : (q : List ℕ) → (IsAbove p q → ⊥) → place_of new q ≡ place_of old q
  pub nodes : new.nodes ≡ old.nodes

-- every space stands at home
abbrev pub all_home : ℕ → Places
all_home nodes = record { nodes = nodes; away = [] }

-- every space stands where it did
pub record StandsAlike (old new : Places) : Type 0 where
  pub places : (q : List ℕ) → place_of new q ≡ place_of old q
  pub nodes : new.nodes ≡ old.nodes

-- there is a node, and each that is listed is one of them
pub record AreNodes (s : Places) : Type 0 where
  pub some : 1 ≤ s.nodes
  pub below : (p : List ℕ) (node : ℕ) → listed s.away p ≡ Some node → node < s.nodes

-- with a node for a path, in the order of paths
abbrev pub put : List (List ℕ × ℕ) → List ℕ → ℕ → List (List ℕ × ℕ)
put [] p node = (p, node) ∷ []
put (x ∷ others) p node = match_ordering (slice_cmp nat_cmp p x.0) ((p, node) ∷ x ∷ others) ((x.0, node) ∷ others) (x ∷ put others p node)

-- with another node for a path that is listed
abbrev pub rewritten : List (List ℕ × ℕ) → List ℕ → ℕ → List (List ℕ × ℕ)
rewritten [] p node = []
rewritten (x ∷ others) p node = if is_path p x.0 then (x.0, node) ∷ others else x ∷ rewritten others p node

-- without a path
abbrev pub without : List (List ℕ × ℕ) → List ℕ → List (List ℕ × ℕ)
without [] p = []
without (x ∷ others) p = if is_path p x.0 then others else x ∷ without others p

-- what is listed once the space at a path went to a node: a path that was listed stays so, at home too, and another is listed where it leaves its home
abbrev pub away_then : Option ℕ → Places → List ℕ → ℕ → List (List ℕ × ℕ)
away_then (Some _) s p node = rewritten s.away p node
away_then None s p node = if node == home s.nodes p then s.away else put s.away p node

abbrev pub gone_to : Places → List ℕ → ℕ → Places
gone_to s p node = record { nodes = s.nodes; away = away_then (listed s.away p) s p node }
