-- What the calls of processes and threads are of a caller that pays.
use Rattle.std.proofs.Common.{◌≡◌, ℕ, ◌<◌, refl, subst, sym, ◌∙◌, ap}
use Rattle.std.specs.Prelude.{Bool, true, false, option_map, Result, OnOk, OnErr}
use Rattle.std.proofs.lemmas.Result.{on_ok_weaker, on_err_weaker}
use Rattle.call_model.specs.declared.Call.{Call}
use Rattle.call_model.specs.declared.Call.TheVariants.{Wait}
use Rattle.space_model.specs.Space.{Space, space, Children, Top, top_of, find}
use Rattle.space_model.specs.Change.{after_payment, after_success}
use Rattle.space_model.specs.Call.{edit, change, take_away, seen_of, apply_meeting}
use Rattle.space_model.specs.Caller.{with_action}
use Rattle.space_model.specs.Meeting.{or_fresh, awaits, action}
use Rattle.space_model.specs.Runtime.{after_fork, after_thread_fork, after_wait}
use Rattle.space_model.proofs.Callers.{or_fresh-paid}
use Rattle.user_runtime.specs.Calls.{after_fork_of, fork_call}

-- a caller that has paid forks a child alike
after_fork_of-paid : (thread : Bool) (t c : Top) → after_fork_of thread (after_payment t t) c ≡ after_fork_of thread t c
unfolding after_fork after_thread_fork
after_fork_of-paid true t c = refl
after_fork_of-paid false t c = refl

-- what a fork does to a caller and its children
abbrev with_fork : Bool → ℕ → Top → Children → Space
with_fork thread n t cs = space (after_success t) (edit (change n (after_fork_of thread t (or_fresh t (option_map top_of (find n cs))))) cs)

fork_acts : (thread : Bool) (n : ℕ) (t : Top) (cs : Children) → with_fork thread n t cs ≡ apply_meeting (action (fork_call thread n) t (seen_of (awaits (fork_call thread n)) cs)) cs
fork_acts true n t cs = refl
fork_acts false n t cs = refl

pub fork_met : (thread : Bool) (n : ℕ) (s : Space) (t u : Top) (cs ds : Children) → space t cs ≡ s → 0 < (top_of s).fuel
    → ds ≡ edit (change n (after_fork_of thread t (or_fresh t (option_map top_of (find n cs))))) cs → u ≡ after_success (after_payment t t)
    → space u ds ≡ with_action (fork_call thread n) s
unfolding with_action
fork_met thread n s t u cs ds view some edited went =
    let p = after_payment t t in
    let o = option_map top_of (find n cs) in
    let fuel : 0 < t.fuel = subst (λ r. 0 < (top_of r).fuel) (sym view) some in
    ap (λ v. space v ds) went ∙ ap (space (after_success p)) edited
    ∙ ap (λ c. space (after_success p) (edit (change n c) cs)) (sym (after_fork_of-paid thread t (or_fresh t o)))
    ∙ ap (λ c. space (after_success p) (edit (change n (after_fork_of thread p c)) cs)) (sym (or_fresh-paid t o fuel))
    ∙ fork_acts thread n p cs
    ∙ ap (with_action (fork_call thread n)) view

-- a caller may pay before it waits or behind that
wait_paid : (c t : Top) → after_payment (after_wait c t) (after_wait c t) ≡ after_wait c (after_payment t t)
unfolding after_wait
wait_paid c t = refl

-- the caller and its children after a wait
abbrev with_wait : ℕ → Top → Children → Top → Space
with_wait n p cs c = space (after_success (after_wait c p)) (edit (take_away n) cs)

wait_acts : (n : ℕ) (t : Top) (cs : Children) → with_wait n (after_payment t t) cs (or_fresh (after_payment t t) (option_map top_of (find n cs))) ≡ with_action (Wait n) (space t cs)
unfolding with_action
wait_acts n t cs = refl

pub wait_met : (n : ℕ) (s : Space) (t u v : Top) (cs ds : Children) → space t cs ≡ s → 0 < (top_of s).fuel → u ≡ after_wait (or_fresh t (option_map top_of (find n cs))) t
    → ds ≡ edit (take_away n) cs → v ≡ after_success (after_payment u u) → space v ds ≡ with_action (Wait n) s
wait_met n s t u v cs ds view some waited gone went =
    let o = option_map top_of (find n cs) in
    let fuel : 0 < t.fuel = subst (λ r. 0 < (top_of r).fuel) (sym view) some in
    ap (λ x. space x ds) (went ∙ ap (λ x. after_success (after_payment x x)) waited ∙ ap after_success (wait_paid (or_fresh t o) t))
    ∙ ap (space (after_success (after_wait (or_fresh t o) (after_payment t t)))) gone
    ∙ ap (with_wait n (after_payment t t) cs) (sym (or_fresh-paid t o fuel))
    ∙ wait_acts n t cs ∙ ap (with_action (Wait n)) view

-- a call of a space that was another value before
pub acts_from : {E : Type 0} (r : Result (Unit {0}) E) (k : Call) (s t u : Space) → t ≡ s → OnOk r (u ≡ with_action k t) → OnOk r (u ≡ with_action k s)
acts_from r k s t u same = on_ok_weaker r (λ e. e ∙ ap (with_action k) same)

pub same_from : {E : Type 0} (r : Result (Unit {0}) E) (s t u : Space) → t ≡ s → OnErr r (u ≡ t) → OnErr r (u ≡ s)
same_from r s t u same = on_err_weaker r (λ e. e ∙ same)
