-- A root's own events by demand: some and then some more, local ones, and a call.
use Rattle.std.proofs.Common.{◌≡◌, ℕ, zero, suc, ◌+◌, ◌≤◌, length, refl, sym, ap, ◌∙◌, subst, arith, zero-add, suc-add}
use Rattle.call_model.specs.declared.Call.{Call}
use Rattle.space_model.specs.Space.{Space, space, Top, Children, top_of, children_of}
use Rattle.space_model.specs.Meeting.{awaits, meet}
use Rattle.space_model.specs.Event.{NextEvent, rests, moves, meets, next, Follows}
use Rattle.report_model.specs.Report.{console_of}
use Rattle.run_model.specs.Demand.{Meaning, run_for, go_on, wait_for, of_children}
use Rattle.run_model.proofs.Fuel.{run_for-rests}
use Rattle.demand_eval.specs.Turns.{by_demand}
use Rattle.demand_eval.specs.Streams.{ByOneEvent}

run_for-add : (f : Meaning) (levels n m : ℕ) (s : Space) → (run_for f levels (n + m) s).space ≡ (run_for f levels m (run_for f levels n s).space).space
unfolding run_for
run_for-add f levels zero m s = rw zero-add refl
run_for-add f levels (suc n) m s = rw suc-add (go (next levels (top_of s)) refl (run_for-add f levels n m))
  where
    go : (x : NextEvent) → next levels (top_of s) ≡ x → ((r : Space) → (run_for f levels (n + m) r).space ≡ (run_for f levels m (run_for f levels n r).space).space)
        → (go_on levels x s f (run_for f levels (n + m))).space ≡ (run_for f levels m (go_on levels x s f (run_for f levels n)).space).space
    go rests e rec = sym (run_for-rests f levels m s e)
    go (moves u) e rec = rec (space u (children_of s))
    go (meets k u) e rec = rec (meet levels k u (wait_for f (awaits k) (children_of s)).children)

pub demand-add : (levels n m : ℕ) (s : Space) → by_demand levels (n + m) s ≡ by_demand levels m (by_demand levels n s)
demand-add levels n m s = run_for-add (of_children levels) levels n m s

pub demand-none : (levels : ℕ) (s : Space) → s ≡ by_demand levels 0 s
unfolding run_for
demand-none levels s = refl

-- local events are events by demand
pub demand-follows : (levels n : ℕ) (t u : Top) (cs : Children) → Follows levels n t u → by_demand levels n (space t cs) ≡ space u cs
unfolding run_for
demand-follows levels zero t u cs is = ap (λ v. space v cs) (sym is)
demand-follows levels (suc n) t u cs is =
    let first : (run_for (of_children levels) levels (suc n) (space t cs)).space ≡ (run_for (of_children levels) levels n (space is.0 cs)).space = rw is.1 refl in
    first ∙ demand-follows levels n is.0 u cs is.2

-- a call is one, once what it waits for is ready
pub demand-meets : (levels : ℕ) (t u : Top) (k : Call) (cs : Children) → next levels t ≡ meets k u
    → by_demand levels 1 (space t cs) ≡ meet levels k u (wait_for (of_children levels) (awaits k) cs).children
unfolding run_for
demand-meets levels t u k cs e =
    let first : (run_for (of_children levels) levels (suc zero) (space t cs)).space ≡ meet levels k u (wait_for (of_children levels) (awaits k) cs).children = rw e refl in
    first

-- from a tree that itself came by demand
pub one_event_from : (n count : ℕ) (s m at : Space) → m ≡ by_demand 8 n s → ByOneEvent count m at → ByOneEvent count s at
one_event_from n count s m at is h =
    let first : by_demand 8 h.before m ≡ by_demand 8 (n + h.before) s = ap (by_demand 8 h.before) is ∙ sym (demand-add 8 n h.before s) in
    let all : by_demand 8 (h.before + 1) m ≡ by_demand 8 (n + (h.before + 1)) s = ap (by_demand 8 (h.before + 1)) is ∙ sym (demand-add 8 n (h.before + 1) s) in
    let same : n + (h.before + 1) ≡ n + h.before + 1 = omega arith in
    record {
      before = n + h.before;
      last = h.last ∙ all ∙ ap (λ k. by_demand 8 k s) same;
      covered = subst (λ r. length (console_of r) ≤ count) first h.covered;
    }
