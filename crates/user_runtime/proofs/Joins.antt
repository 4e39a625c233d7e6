-- A join of a thread, and the meeting that it is.
use Rattle.std.proofs.Common.{◌≡◌, ℕ, ◌<◌, Option, Some, None, [], ◌∷◌, refl, subst, sym, ◌∙◌, ap}
use Rattle.memory_model.specs.Memory.{Memory}
use Rattle.merge_model.specs.Merge.{first_conflict, with_merge}
use Rattle.space_model.specs.declared.Cause.TheVariants.{Conflict}
use Rattle.space_model.specs.declared.Refusal.{Refusal}
use Rattle.std.specs.Prelude.{false, option_map, Result, OnOk, OnErr}
use Rattle.call_model.specs.declared.Call.{Call}
use Rattle.call_model.specs.declared.Call.TheVariants.{Tjoin}
use Rattle.space_model.specs.Space.{Space, space, Children, Top, top_of, find}
use Rattle.space_model.specs.Change.{after_payment, after_success, stop}
use Rattle.space_model.specs.Call.{apply_meeting}
use Rattle.space_model.specs.Refusals.{first_refusal}
use Rattle.space_model.specs.Caller.{MayCall, StaysSound}
use Rattle.space_model.specs.Meeting.{or_fresh, test_refusal, unless_refused, snapshot_refusal, conflict_refusal}
use Rattle.space_model.specs.Beginning.{fresh_top}
use Rattle.call_model.specs.Limits.{levels_below}
use Rattle.space_model.proofs.Callers.{or_fresh-paid, stays_sound}
use Rattle.space_model.specs.Part.{with_changes}
use Rattle.space_model.specs.Runtime.{shared_pages, with_stop, after_join}
use Rattle.user_runtime.specs.Joins.{IsShared, conflict_at, shared_conflict, shared_merge, join_refusal, join_memory, with_join_unless, with_join, after_call}

shared_is : (s c p : Memory) (first count : ℕ) → IsShared first count → conflict_at (first_conflict false s c p first count) ≡ shared_conflict s c p
unfolding IsShared shared_conflict
shared_is s c p first count h = ap (λ j. conflict_at (first_conflict false s c p j count)) h.0 ∙ ap (λ j. conflict_at (first_conflict false s c p 0 j)) h.1

pub no_conflict : (s c p : Memory) (first count : ℕ) → IsShared first count → first_conflict false s c p first count ≡ None → None ≡ shared_conflict s c p
no_conflict s c p first count h is = sym (ap conflict_at is) ∙ shared_is s c p first count h

pub one_conflict : (s c p : Memory) (first count a : ℕ) → IsShared first count → first_conflict false s c p first count ≡ Some a → Some (record { cause = Conflict; value = a }) ≡ shared_conflict s c p
one_conflict s c p first count a h is = sym (ap conflict_at is) ∙ shared_is s c p first count h

pub shared_merged : (s c p m : Memory) (first count : ℕ) → IsShared first count → m ≡ with_merge s c p first count → m ≡ shared_merge s c p
unfolding IsShared shared_merge
shared_merged s c p m first count h is = is ∙ ap (λ j. with_merge s c p j count) h.0 ∙ ap (λ j. with_merge s c p 0 j) h.1

first_is : (o : Option Refusal) → first_refusal (None ∷ o ∷ []) ≡ o
first_is None = refl
first_is (Some r) = refl

pub join_tests : (o : Option Memory) (c p : Memory) → first_refusal (snapshot_refusal o ∷ conflict_refusal false o c p 0 shared_pages ∷ []) ≡ join_refusal o c p
unfolding shared_conflict
join_tests None c p = refl
join_tests (Some s) c p = first_is (conflict_at (first_conflict false s c p 0 shared_pages))

pub join_merges : (o : Option Memory) (c p : Memory) → with_changes o c p 0 shared_pages ≡ join_memory o c p
unfolding shared_merge
join_merges None c p = refl
join_merges (Some s) c p = refl

join_acts : (r : Option Refusal) (c t : Top) (cs : Children) → space (with_join_unless r c t) cs
    ≡ apply_meeting (unless_refused r (after_payment t t) (record { caller = after_success (after_join c (after_payment t t)); edits = [] })) cs
unfolding after_join
join_acts None c t cs =
    ap (λ m. space (after_success (after_payment t (with_stop c.status (record t { memory = m })))) cs) (sym (join_merges c.snapshot c.memory t.memory))
join_acts (Some r) c t cs = refl

-- a join of a caller that has paid
join_is : (levels n : ℕ) (c t : Top) (cs : Children) → or_fresh (after_payment t t) (option_map top_of (find n cs)) ≡ c → space (with_join c t) cs ≡ after_call levels (Tjoin n) (space t cs)
unfolding after_call
join_is levels n c t cs is =
    let p = after_payment t t in
    join_acts (join_refusal c.snapshot c.memory t.memory) c t cs
    ∙ ap (λ r. apply_meeting (unless_refused r p (record { caller = after_success (after_join c p); edits = [] })) cs) (sym (join_tests c.snapshot c.memory t.memory))
    ∙ ap (λ d. apply_meeting (unless_refused (first_refusal (snapshot_refusal d.snapshot ∷ conflict_refusal false d.snapshot d.memory t.memory 0 shared_pages ∷ [])) p (record { caller = after_success (after_join d p); edits = [] })) cs) (sym is)

-- a child that was never forked as a thread
pub join_missing : (fuel : ℕ) (r : Refusal) (t u : Top) → Some r ≡ test_refusal 5 → u ≡ stop (after_payment t t) r.cause r.value → u ≡ with_join (fresh_top fuel) t
join_missing fuel r t u refused stopped = stopped ∙ ap (λ o. with_join_unless o (fresh_top fuel) t) refused

pub join_met : (levels n : ℕ) (s : Space) (t u : Top) (cs : Children) → space t cs ≡ s → 0 < (top_of s).fuel → u ≡ with_join (or_fresh t (option_map top_of (find n cs))) t → space u cs ≡ after_call levels (Tjoin n) s
join_met levels n s t u cs view some is =
    let o = option_map top_of (find n cs) in
    let fuel : 0 < t.fuel = subst (λ r. 0 < (top_of r).fuel) (sym view) some in
    ap (λ v. space v cs) is ∙ join_is levels n (or_fresh t o) t cs (or_fresh-paid t o fuel) ∙ ap (after_call levels (Tjoin n)) view

-- a space after a call, or as it was, is as sound as it was
pub after_call_sound : {E : Type 0} (r : Result (Unit {0}) E) (depth : ℕ) (k : Call) (s u : Space) → MayCall depth k s → OnOk r (u ≡ after_call (levels_below depth) k s) → OnErr r (u ≡ s) → StaysSound depth s u
unfolding after_call
after_call_sound r depth k s u may met same = stays_sound r depth k s u may met same
