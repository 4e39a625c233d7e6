-- What holds of a caller and its threads holds of a caller at any path, whatever happens elsewhere.
use Rattle.std.proofs.Common.{◌≡◌, ℕ, pred, ◌+◌, ◌≤◌, ◌<◌, true, List, [], ◌∷◌, Option, Some, None, refl, sym, ap, ◌∙◌, inl, inr, ◌⊎◌, subst}
use Rattle.std.proofs.lemmas.Bool.{cases_eq}
use Rattle.std.specs.Prelude.{option_map, option_and_then}
use Rattle.memory_model.specs.Memory.{Memory}
use Rattle.call_model.specs.declared.Call.{Call}
use Rattle.call_model.specs.declared.Call.TheVariants.{Qstart, Qcommit}
use Rattle.space_model.specs.Commit.{commits}
use Rattle.space_model.specs.Quanta.{waits, writings}
use Rattle.space_model.specs.Space.{Space, space, Children, top_of, children_of, find, over}
use Rattle.space_model.specs.Path.{at}
use Rattle.space_model.specs.Event.{next}
use Rattle.space_model.proofs.Children.{find-over_same, find-over_other}
use Rattle.run_model.specs.Schedule.{call_at, is_enabled, is_local_at, on_child, step}
use Rattle.quantum_model.specs.Rows.{threads_in}
use Rattle.quantum_laws.specs.Around.{MayHappenAround, LeadsAround, HasSnapshotAt}
use Rattle.quantum_laws.specs.Between.{MayHappenBetween, HasSnapshot, memory_of, status_of}
use Rattle.quantum_laws.proofs.Between.{commits_what_was_written, event_between, local_children, snapshots_stay}

same_space : (s c : Space) → Some s ≡ Some c → c ≡ s
same_space s c is = cc

may_between : (levels : ℕ) (q : List ℕ) (s : Space) → MayHappenAround levels [] q s → MayHappenBetween levels q s
may_between levels [] s may = may.1 tt
may_between levels (k ∷ q) s may = may.0

-- an event of a child, on the way to the caller
may_below : (levels n : ℕ) (p q : List ℕ) (s c : Space) → find n (children_of s) ≡ Some c → MayHappenAround levels (n ∷ p) (n ∷ q) s → MayHappenAround (pred levels) p q c
may_below levels n p q s c is may = (
  ap (on_child (is_enabled q (pred levels))) (sym is) ∙ may.0,
  λ way. ap (on_child (is_local_at q (pred levels))) (sym is) ∙ may.1 (refl, way),
)

-- the caller is below a child that is there
below_there : (n : ℕ) (p : List ℕ) (cs : Children) (c : Space) (o : Option Space) → find n cs ≡ o → option_and_then (at p) o ≡ Some c → (d : Space) × (find n cs ≡ Some d) × (at p d ≡ Some c)
below_there n p cs c None found is = cc
below_there n p cs c (Some d) found is = (d, found, is)

-- where the child on the way becomes another
over_there : (n : ℕ) (p : List ℕ) (f : Space → Space) (cs : Children) (c d : Space) → find n cs ≡ Some d → at p (f d) ≡ Some c → option_and_then (at p) (find n (over n f cs)) ≡ Some c
over_there n p f cs c d found is = ap (option_and_then (at p)) (find-over_same n f cs ∙ ap (option_map f) found) ∙ is

-- one event
event_around : (levels n : ℕ) (m : Memory) (p q : List ℕ) (s : Space) → MayHappenAround levels p q s → HasSnapshotAt p n m s → HasSnapshotAt p n m (step q levels s)
event_around levels n m [] q s may has = record {
  caller = step q levels s;
  there = refl;
  keeps = event_between levels n m q s (may_between levels q s may) (subst (HasSnapshot n m) (same_space s has.caller has.there) has.keeps);
}
event_around levels n m (j ∷ p) [] s may has = record {
  caller = has.caller;
  there = ap (λ cs. option_and_then (at p) (find j cs)) (local_children levels (next levels (top_of s)) s (may.1 tt)) ∙ has.there;
  keeps = has.keeps;
}
event_around levels n m (j ∷ p) (k ∷ q) (space t cs) may has = go (λ d may' has'. event_around (pred levels) n m p q d may' has') (cases_eq j k)
  where
    Below : Type 0
    Below = (d : Space) → MayHappenAround (pred levels) p q d → HasSnapshotAt p n m d → HasSnapshotAt p n m (step q (pred levels) d)

    inner : Below → (d : Space) → find j cs ≡ Some d → at p d ≡ Some has.caller → MayHappenAround levels (j ∷ p) (j ∷ q) (space t cs) → HasSnapshotAt (j ∷ p) n m (space t (over j (step q (pred levels)) cs))
    inner each d found is may' =
        let rest = each d (may_below levels j p q (space t cs) d found may') (record { caller = has.caller; there = is; keeps = has.keeps }) in
        record {
          caller = rest.caller;
          there = over_there j p (step q (pred levels)) cs rest.caller d found rest.there;
          keeps = rest.keeps;
        }

    go : Below → (j ≡ k) ⊎ (j ≡ k → ⊥) → HasSnapshotAt (j ∷ p) n m (space t (over k (step q (pred levels)) cs))
    go each (inl e) =
        let below = below_there j p cs has.caller (find j cs) refl has.there in
        subst (λ i. HasSnapshotAt (j ∷ p) n m (space t (over i (step q (pred levels)) cs))) e
        (inner each below.0 below.1 below.2 (subst (λ i. MayHappenAround levels (j ∷ p) (i ∷ q) (space t cs)) (sym e) may))
    go each (inr ne) = record {
      caller = has.caller;
      there = ap (option_and_then (at p)) (find-over_other j k (step q (pred levels)) cs ne) ∙ has.there;
      keeps = has.keeps;
    }

around : (levels n : ℕ) (m : Memory) (p : List ℕ) (qs : List (List ℕ)) (s t : Space) → LeadsAround levels p qs s t → HasSnapshotAt p n m s → HasSnapshotAt p n m t
around levels n m p [] s t leads has = rw leads has
around levels n m p (q ∷ qs) s t leads has = around levels n m p qs (step q levels s) t leads.1 (event_around levels n m p q s leads.0 has)

-- a call at a path is a call of the space there, and what becomes of it is what becomes of that space
record IsCalled (levels : ℕ) (p : List ℕ) (k : Call) (s c : Space) : Type 0 where
  left : ℕ
  calls : call_at [] left c ≡ Some k
  there : at p (step p levels s) ≡ Some (step [] left c)

called : (levels : ℕ) (p : List ℕ) (k : Call) (s c : Space) → at p s ≡ Some c → call_at p levels s ≡ Some k → IsCalled levels p k s c
called levels [] k s c is calls = subst (IsCalled levels [] k s) (sym (same_space s c is)) (record { left = levels; calls = calls; there = refl })
called levels (n ∷ p) k (space t cs) c is calls =
    let below = below_there n p cs c (find n cs) refl is in
    let rest = called (pred levels) p k below.0 c below.2 (ap (option_and_then (call_at p (pred levels))) (sym below.1) ∙ calls) in
    record {
      left = rest.left;
      calls = rest.calls;
      there = over_there n p (step p (pred levels)) cs (step [] rest.left c) below.0 below.1 rest.there;
    }

pub snapshots_stay_anywhere : (levels first count quantum n : ℕ) (p : List ℕ) (s t c k : Space) (qs : List (List ℕ)) → at p s ≡ Some c → call_at p levels s ≡ Some (Qstart first count quantum)
    → first ≤ n → n < first + count → find n (children_of c) ≡ Some k → waits (status_of k) ≡ true → LeadsAround levels p qs (step p levels s) t → HasSnapshotAt p n (memory_of c) t
snapshots_stay_anywhere levels first count quantum n p s t c k qs is calls low high there waiting leads =
    let from = called levels p (Qstart first count quantum) s c is calls in
    around levels n (memory_of c) p qs (step p levels s) t leads (record {
      caller = step [] from.left c;
      there = from.there;
      keeps = snapshots_stay from.left first count quantum n c (step [] from.left c) k [] from.calls low high there waiting refl;
    })

pub commits_anywhere : (levels first count : ℕ) (p : List ℕ) (s c : Space) → at p s ≡ Some c → call_at p levels s ≡ Some (Qcommit first count)
    → (d : Space) × (at p (step p levels s) ≡ Some d) × (memory_of d ≡ commits (memory_of c) (writings (threads_in first count (children_of c))))
commits_anywhere levels first count p s c is calls =
    let from = called levels p (Qcommit first count) s c is calls in
    (step [] from.left c, from.there, commits_what_was_written from.left first count c from.calls)
