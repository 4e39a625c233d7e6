-- Between two calls of a caller its threads keep their snapshots.
use Rattle.std.proofs.Common.{◌≡◌, ℕ, pred, ◌+◌, ◌≤◌, ◌<◌, true, List, [], ◌∷◌, Some, refl, sym, ap, ◌∙◌, inl, inr, ◌⊎◌, subst}
use Rattle.std.proofs.lemmas.Bool.{cases_eq}
use Rattle.std.specs.Prelude.{option_map}
use Rattle.memory_model.specs.Memory.{Memory}
use Rattle.memory_model.specs.Ranges.{with_copies}
use Rattle.call_model.specs.declared.Call.{Call}
use Rattle.call_model.specs.declared.Call.TheVariants.{Qstart, Qcommit}
use Rattle.space_model.specs.Space.{Space, space, Children, Top, top_of, children_of, find, over}
use Rattle.space_model.specs.Change.{after_payment}
use Rattle.space_model.specs.Event.{NextEvent, rests, moves, meets, next}
use Rattle.space_model.specs.Commit.{commits}
use Rattle.space_model.specs.Quanta.{waits, after_start, writings}
use Rattle.space_model.specs.Runtime.{shared_pages}
use Rattle.space_model.specs.Meeting.{meet}
use Rattle.space_model.proofs.Children.{find-over_same, find-over_other}
use Rattle.space_model.proofs.Next.{next_meets}
use Rattle.run_model.specs.Schedule.{is_local, call_at, event, step}
use Rattle.det_laws.proofs.Near.{ready_found}
use Rattle.quantum_model.specs.Rows.{threads_in}
use Rattle.quantum_laws.specs.Between.{memory_of, status_of, MayHappenBetween, LeadsBetween, HasSnapshot}
use Rattle.quantum_laws.proofs.Keeping.{step_keeps}
use Rattle.quantum_laws.proofs.Starting.{gives, shared_copy}

pub local_children : (levels : ℕ) (e : NextEvent) (s : Space) → is_local e ≡ true → children_of (event levels e s) ≡ children_of s
local_children levels rests s is = cc
local_children levels (moves u) s is = refl
local_children levels (meets k u) s is = cc

-- one event
pub event_between : (levels n : ℕ) (m : Memory) (p : List ℕ) (s : Space) → MayHappenBetween levels p s → HasSnapshot n m s → HasSnapshot n m (step p levels s)
event_between levels n m [] s may has = record {
  child = has.child;
  snapshot = has.snapshot;
  there = ap (find n) (local_children levels (next levels (top_of s)) s may) ∙ has.there;
  kept = has.kept;
  copied = has.copied;
}
event_between levels n m (k ∷ p) (space t cs) may has = go (cases_eq n k)
  where
    go : (n ≡ k) ⊎ (n ≡ k → ⊥) → HasSnapshot n m (space t (over k (step p (pred levels)) cs))
    go (inl e) = record {
      child = step p (pred levels) has.child;
      snapshot = has.snapshot;
      there = ap (λ i. find n (over i (step p (pred levels)) cs)) (sym e) ∙ find-over_same n (step p (pred levels)) cs ∙ ap (option_map (step p (pred levels))) has.there;
      kept = step_keeps p (pred levels) has.child ∙ has.kept;
      copied = has.copied;
    }
    go (inr ne) = record {
      child = has.child;
      snapshot = has.snapshot;
      there = find-over_other n k (step p (pred levels)) cs ne ∙ has.there;
      kept = has.kept;
      copied = has.copied;
    }

between : (levels n : ℕ) (m : Memory) (ps : List (List ℕ)) (s t : Space) → LeadsBetween levels ps s t → HasSnapshot n m s → HasSnapshot n m t
between levels n m [] s t leads has = rw leads has
between levels n m (p ∷ ps) s t leads has = between levels n m ps (step p levels s) t leads.1 (event_between levels n m p s leads.0 has)

-- what becomes of its caller and the children
met : (levels : ℕ) (k : Call) (t : Top) (cs : Children) → call_at [] levels (space t cs) ≡ Some k → step [] levels (space t cs) ≡ meet levels k (after_payment t t) cs
met levels k t cs is =
    let found = ready_found (next levels t) cs k is in
    let paid = (next_meets levels t k found.0 found.1).paid in
    ap (λ e. event levels e (space t cs)) found.1 ∙ ap (λ u. meet levels k u cs) paid

started : (levels first count quantum n : ℕ) (t c : Top) (cs under : Children) → call_at [] levels (space t cs) ≡ Some (Qstart first count quantum) → first ≤ n → n < first + count
    → find n cs ≡ Some (space c under) → waits c.status ≡ true → HasSnapshot n t.memory (meet levels (Qstart first count quantum) (after_payment t t) cs)
unfolding after_start
started levels first count quantum n t c cs under is low high there waiting = record {
  child = space (after_start quantum (after_payment t t) c) under;
  snapshot = with_copies c.memory t.memory 0 0 shared_pages;
  there = gives quantum (after_payment t t) first count cs n c under cs (λ k le. refl) there waiting low high;
  kept = refl;
  copied = shared_copy c.memory t.memory;
}

pub snapshots_stay : (levels first count quantum n : ℕ) (s t c : Space) (ps : List (List ℕ)) → call_at [] levels s ≡ Some (Qstart first count quantum) → first ≤ n → n < first + count
    → find n (children_of s) ≡ Some c → waits (status_of c) ≡ true → LeadsBetween levels ps (step [] levels s) t → HasSnapshot n (memory_of s) t
snapshots_stay levels first count quantum n (space u cs) t (space c under) ps is low high there waiting leads =
    between levels n u.memory ps (step [] levels (space u cs)) t leads
    (subst (HasSnapshot n u.memory) (sym (met levels (Qstart first count quantum) u cs is)) (started levels first count quantum n u c cs under is low high there waiting))

pub commits_what_was_written : (levels first count : ℕ) (s : Space) → call_at [] levels s ≡ Some (Qcommit first count)
    → memory_of (step [] levels s) ≡ commits (memory_of s) (writings (threads_in first count (children_of s)))
commits_what_was_written levels first count (space t cs) is = ap memory_of (met levels (Qcommit first count) t cs is)
