-- How a space runs until it stops, over what its children do when they are waited for: by its next events, and until it has stopped.
use Rattle.std.proofs.Common.{◌≡◌, ℕ, zero, suc, ◌≤◌, Bool, true, false, cond, List, ◌∷◌, Option, Some, None, refl, sym, ap, ◌∙◌, subst, arith}
use Rattle.call_model.specs.declared.Call.{Call}
use Rattle.space_model.specs.Stop.{is_stopped}
use Rattle.space_model.specs.Space.{Space, space, Children, Top, top_of, children_of, find, over}
use Rattle.space_model.specs.declared.Await.{Await}
use Rattle.space_model.specs.Call.{seen_of}
use Rattle.space_model.specs.Meeting.{awaits, meet}
use Rattle.space_model.proofs.Parts.{meeting_alike}
use Rattle.space_model.specs.Event.{NextEvent, rests, moves, meets, next, Follows}
use Rattle.space_model.proofs.Children.{over_missing, over-at}
use Rattle.run_model.specs.Demand.{Meaning, run_for, wait_for, wait_for_child, go_on, meaning, run, of_children, left_of}
use Rattle.run_model.proofs.Fuel.{next_costs, CostsOrEnds, run_for-rests, run_for-moves, rests_stopped, stopped_rests, left_falls}

-- the run of a space over what its children do
abbrev pub run_on : Meaning → ℕ → Space → Space
run_on f levels s = (run_for f levels (suc (top_of s).fuel) s).space

-- where there is nothing next, it has run
pub run_on-rests : (f : Meaning) (levels : ℕ) (s : Space) → next levels (top_of s) ≡ rests → run_on f levels s ≡ s
run_on-rests f levels s e = run_for-rests f levels (suc (top_of s).fuel) s e

-- after a local event, and after many, it goes on
pub run_on-moves : (f : Meaning) (levels : ℕ) (t u : Top) (cs : Children) → next levels t ≡ moves u → run_on f levels (space t cs) ≡ run_on f levels (space u cs)
run_on-moves f levels t u cs e = run_for-moves f levels t u cs e

pub run_on-follows : (f : Meaning) (levels n : ℕ) (t u : Top) (cs : Children) → Follows levels n t u → run_on f levels (space t cs) ≡ run_on f levels (space u cs)
run_on-follows f levels zero t u cs is = ap (λ v. run_on f levels (space v cs)) (sym is)
run_on-follows f levels (suc n) t u cs is = run_on-moves f levels t is.0 cs is.1 ∙ run_on-follows f levels n is.0 u cs is.2

-- a call changes nothing of what its caller has paid
pub meet_fuel : (levels : ℕ) (k : Call) (u : Top) (cs : Children) → (top_of (meet levels k u cs)).fuel ≡ u.fuel
meet_fuel levels k u cs = (meeting_alike levels k u (seen_of (awaits k) cs)).fuel

-- a call takes one unit
pub call_costs : (levels : ℕ) (t u : Top) (k : Call) → next levels t ≡ meets k u → suc u.fuel ≡ t.fuel
call_costs levels t u k e = subst (CostsOrEnds levels t) e (next_costs levels t)

-- after a call, once the children that it waits for have run, it goes on
pub run_on-meets : (f : Meaning) (levels : ℕ) (t u : Top) (k : Call) (cs : Children) → next levels t ≡ meets k u
    → run_on f levels (space t cs) ≡ run_on f levels (meet levels k u (wait_for f (awaits k) cs).children)
unfolding run_for
run_on-meets f levels t u k cs e =
    let cs' = (wait_for f (awaits k) cs).children in
    let turns : t.fuel ≡ suc (top_of (meet levels k u cs')).fuel = sym (call_costs levels t u k e) ∙ ap suc (sym (meet_fuel levels k u cs')) in
    let first : (run_for f levels (suc t.fuel) (space t cs)).space ≡ (run_for f levels t.fuel (meet levels k u cs')).space = rw e refl in
    first ∙ ap (λ n. (run_for f levels n (meet levels k u cs')).space) turns

-- what becomes of a child that is waited for
wait_one : (f : Meaning) (a : Await) (cs : Children) (o : Option Space) → find a.number cs ≡ o → (wait_for_child f a cs o).children ≡ over a.number (λ c. (f a.reach c).space) cs
wait_one f a cs None at = sym (over_missing a.number (λ c. (f a.reach c).space) cs at)
wait_one f a cs (Some c) at = over-at a.number (λ d. (f a.reach c).space) (λ d. (f a.reach d).space) c cs at refl

-- to wait for some is to wait for the first, and then for the others
pub wait_for-first : (f : Meaning) (a : Await) (others : List Await) (cs : Children) → (wait_for f (a ∷ others) cs).children ≡ (wait_for f others (over a.number (λ c. (f a.reach c).space) cs)).children
wait_for-first f a others cs = ap (λ xs. (wait_for f others xs).children) (wait_one f a cs (find a.number cs) refl)

-- the run of a space is its run over its children's own
pub run-run_on : (levels : ℕ) (s : Space) → run levels s ≡ run_on (of_children levels) levels s
unfolding meaning
run-run_on zero s = refl
run-run_on (suc levels) s = refl

-- with turns for all that is left, a run ends where the space has stopped
running_left : (b : Bool) (n : ℕ) → b ≡ false → cond b 0 n ≡ n
running_left true n e = cc
running_left false n e = refl

left_none : (b : Bool) (n : ℕ) → cond b 0 (suc n) ≤ 0 → b ≡ true
left_none true n h = refl
left_none false n h = absurd (omega arith)

left_at_most : (b : Bool) (n : ℕ) → cond b 0 n ≤ n
left_at_most true n = omega arith
left_at_most false n = omega arith

not_stopped : (levels : ℕ) (t : Top) (x : NextEvent) → next levels t ≡ x → (x ≡ rests → ⊥) → (b : Bool) → is_stopped t.status ≡ b → b ≡ false
not_stopped levels t x e ne true is = absurd (ne (sym e ∙ stopped_rests levels t is))
not_stopped levels t x e ne false is = refl

pub runs_out : (f : Meaning) (levels n : ℕ) (s : Space) → left_of (top_of s) ≤ n → is_stopped (top_of (run_for f levels n s).space).status ≡ true
unfolding run_for
runs_out f levels zero s h = left_none (is_stopped (top_of s).status) (top_of s).fuel h
runs_out f levels (suc n) s h = go (next levels (top_of s)) refl (runs_out f levels n)
  where
    go : (x : NextEvent) → next levels (top_of s) ≡ x → ((r : Space) → left_of (top_of r) ≤ n → is_stopped (top_of (run_for f levels n r).space).status ≡ true)
        → is_stopped (top_of (go_on levels x s f (run_for f levels n)).space).status ≡ true
    go rests e rec = rests_stopped levels (top_of s) e
    go (moves u) e rec =
        let fewer = left_falls levels (top_of s) u e in
        let few : left_of u ≤ n = omega arith in
        rec (space u (children_of s)) few
    go (meets k u) e rec =
        let t = top_of s in
        let after = meet levels k u (wait_for f (awaits k) (children_of s)).children in
        let costs = call_costs levels t u k e in
        let fuel = meet_fuel levels k u (wait_for f (awaits k) (children_of s)).children in
        let now = running_left (is_stopped t.status) (suc t.fuel) (not_stopped levels t (meets k u) e (λ z. cc) (is_stopped t.status) refl) in
        let later = left_at_most (is_stopped (top_of after).status) (suc (top_of after).fuel) in
        let few : left_of (top_of after) ≤ n = omega arith in
        rec after few

pub run_on-stops : (f : Meaning) (levels : ℕ) (s : Space) → is_stopped (top_of (run_on f levels s)).status ≡ true
run_on-stops f levels s = runs_out f levels (suc (top_of s).fuel) s (left_at_most (is_stopped (top_of s).status) (suc (top_of s).fuel))

pub run-stops : (levels : ℕ) (s : Space) → is_stopped (top_of (run levels s)).status ≡ true
run-stops levels s = rw (run-run_on levels s) (run_on-stops (of_children levels) levels s)
