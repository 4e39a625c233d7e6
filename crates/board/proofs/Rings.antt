-- Nodes that are gone through in a ring, and the spaces that may be taken on them.
use Rattle.std.proofs.Common.{◌≡◌, ℕ, ◌+◌, ◌-◌, ◌≤◌, ◌<◌, nat_lt, Bool, true, false, List, ◌⊎◌, inl, inr, refl, ap, subst, arith}
use Rattle.std.specs.Prelude.{if◌then◌else◌}
use Rattle.std.proofs.lemmas.Bool.{cases_eq}
use Rattle.std.proofs.lemmas.Bool.Decides.{nat_tests}
use Rattle.node_places.specs.Places.{place_of}
use Rattle.worker_pool.specs.declared.shop.Turn.{Turn}
use Rattle.board.specs.declared.job.Job.{Job}
use Rattle.board.specs.Jobs.{MayBeTaken, MayBeTakenOn}
use Rattle.board.specs.Turns.{GoesOnAmong, GoesOnFrom, NoneAmong, NoneBefore, distance}
use Rattle.board.specs.Value.{Shown}

pub none_yet : (b : Shown) (from : ℕ) → NoneAmong b from from
none_yet b from p low high may = omega (arith, low, high)

-- where none may be taken on one more node
pub none_one_more : (b : Shown) (from node : ℕ) → NoneAmong b from node → ((p : List ℕ) → MayBeTakenOn b.places node b.tree b.out p → ⊥) → NoneAmong b from (node + 1)
none_one_more b from node before here p low high may = go (cases_eq (place_of b.places p) node)
  where
    go : (place_of b.places p ≡ node) ⊎ (place_of b.places p ≡ node → ⊥) → ⊥
    go (inl e) = here p (record { may = may; there = e })
    go (inr ne) = before p low (omega (arith, high, ne)) may

-- a node comes before the first one, or not
ring_cases : (nodes first n : ℕ) → ((n < first) × (distance nodes first n ≡ n + (nodes - first))) ⊎ ((first ≤ n) × (distance nodes first n ≡ n - first))
ring_cases nodes first n = go (nat_lt n first) refl
  where
    go : (b : Bool) → nat_lt n first ≡ b → ((n < first) × (distance nodes first n ≡ n + (nodes - first))) ⊎ ((first ≤ n) × (distance nodes first n ≡ n - first))
    go true is = let less : n < first = grind (arith, nat_tests) in inl (less, ap (λ b. if b then n + (nodes - first) else n - first) is)
    go false is = let more : first ≤ n = grind (arith, nat_tests) in inr (more, ap (λ b. if b then n + (nodes - first) else n - first) is)

-- one of the nodes from the first on
pub from_first : (first : ℕ) (old new : Shown) (t : Turn Job) → GoesOnAmong first old.places.nodes old t new → GoesOnFrom first old t new
from_first first old new t among = record { node = node; there = among.within.1; none = none; goes = among.goes }
  where
    node : ℕ
    node = among.node

    nodes : ℕ
    nodes = old.places.nodes

    none : NoneBefore old first node
    none p near may = go (ring_cases nodes first node) (ring_cases nodes first (place_of old.places p))
      where
        low : first ≤ node
        low = among.within.0

        high : node < nodes
        high = among.within.1

        go : ((node < first) × (distance nodes first node ≡ node + (nodes - first))) ⊎ ((first ≤ node) × (distance nodes first node ≡ node - first))
            → ((place_of old.places p < first) × (distance nodes first (place_of old.places p) ≡ place_of old.places p + (nodes - first))) ⊎ ((first ≤ place_of old.places p) × (distance nodes first (place_of old.places p) ≡ place_of old.places p - first)) → ⊥
        go (inl less) c = let a = less.0 in omega (arith, a, low)
        go (inr more) (inl less) = let a = less.0 in let b = less.1 in let d = more.1 in omega (arith, near, a, b, d, low, high)
        go (inr more) (inr there) = let a = there.0 in let b = there.1 in let d = more.1 in among.none p a (omega (arith, near, a, b, d, low, high)) may

-- or one of those before it, where none of the others has any
pub behind_first : (first : ℕ) (old mid new : Shown) (t : Turn Job) → first < old.places.nodes → ((p : List ℕ) → place_of old.places p < old.places.nodes) → mid ≡ old → NoneAmong old first old.places.nodes → GoesOnAmong 0 first mid t new → GoesOnFrom first old t new
behind_first first old mid new t within are same others among = ring (subst (λ b. GoesOnAmong 0 first b t new) same among)
  where
    ring : GoesOnAmong 0 first old t new → GoesOnFrom first old t new
    ring among = record { node = node; there = omega (arith, within, high); none = none; goes = among.goes }
      where
        node : ℕ
        node = among.node

        nodes : ℕ
        nodes = old.places.nodes

        high : node < first
        high = among.within.1

        none : NoneBefore old first node
        none p near may = go (ring_cases nodes first node) (ring_cases nodes first (place_of old.places p))
          where
            below : place_of old.places p < nodes
            below = are p

            go : ((node < first) × (distance nodes first node ≡ node + (nodes - first))) ⊎ ((first ≤ node) × (distance nodes first node ≡ node - first))
                → ((place_of old.places p < first) × (distance nodes first (place_of old.places p) ≡ place_of old.places p + (nodes - first))) ⊎ ((first ≤ place_of old.places p) × (distance nodes first (place_of old.places p) ≡ place_of old.places p - first)) → ⊥
            go (inr more) c = let a = more.0 in omega (arith, a, high)
            go (inl less) (inl there) = let b = there.1 in let d = less.1 in among.none p (omega arith) (omega (arith, near, b, d)) may
            go (inl less) (inr there) = let a = there.0 in others p a below may

-- none may be taken on any node
pub none_at_all : (first : ℕ) (old : Shown) → ((p : List ℕ) → place_of old.places p < old.places.nodes) → NoneAmong old first old.places.nodes → NoneAmong old 0 first → (p : List ℕ) → MayBeTaken old.tree old.out p → ⊥
none_at_all first old are behind before p may = go (nat_lt (place_of old.places p) first) refl
  where
    go : (b : Bool) → nat_lt (place_of old.places p) first ≡ b → ⊥
    go true is = let less : place_of old.places p < first = grind (arith, nat_tests) in before p (omega arith) less may
    go false is = let more : first ≤ place_of old.places p = grind (arith, nat_tests) in behind p more (are p) may
