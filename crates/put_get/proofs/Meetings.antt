-- What Put and Get are of a caller that pays.
use Rattle.std.proofs.Common.{◌≡◌, ℕ, ◌+◌, ◌<◌, List, [], ◌∷◌, Option, Some, None, refl, subst, sym, ◌∙◌, ap}
use Rattle.std.specs.Prelude.{Bool, true, false, option_map, Result, OnOk}
use Rattle.std.proofs.lemmas.Result.{on_ok_weaker}
use Rattle.call_model.specs.declared.Transfer.{Transfer}
use Rattle.call_model.specs.declared.Call.{Call}
use Rattle.call_model.specs.declared.Call.TheVariants.{Put, PutTree, Get, GetTree}
use Rattle.call_model.specs.Options.{has}
use Rattle.space_model.specs.declared.Refusal.{Refusal}
use Rattle.space_model.specs.declared.Cause.TheVariants.{Conflict}
use Rattle.space_model.specs.Space.{Space, space, Children, Top, top_of, children_of, find}
use Rattle.space_model.specs.Change.{after_payment, stop, after_success}
use Rattle.space_model.specs.Call.{Seen, edit, change, seen_of, apply_meeting}
use Rattle.space_model.specs.Event.{MayPay}
use Rattle.space_model.specs.Beginning.{fresh_top}
use Rattle.space_model.specs.Refusals.{first_refusal}
use Rattle.space_model.specs.Meeting.{or_fresh, awaits, refusals, action, unless_refused, meet}
use Rattle.space_model.specs.Caller.{with_action}
use Rattle.space_model.specs.Part.{Part, part_if, with_parts, get_parts, child_after, caller_after}
use Rattle.space_model.proofs.Callers.{or_fresh-paid}
use Rattle.put_get.specs.Meetings.{get_conflict, early_refusals, last_refusal, early_of, conflict_of, unless_conflict, acts_or_stops, IsPutOrGet}

-- the caller after a Get, by what a look-up found
abbrev pub with_taken : Transfer → Top → Option Space → Top
with_taken x t o = caller_after x (or_fresh t (option_map top_of o)) t

pub taken_there : (x : Transfer) (t u c : Top) (s : Space) (cs : Children) → Some s ≡ find x.child cs → c ≡ top_of s → u ≡ caller_after x c t
    → u ≡ with_taken x t (find x.child cs)
taken_there x t u c s cs at top is = is ∙ ap (λ d. caller_after x d t) top ∙ ap (with_taken x t) at

pub taken_missing : (x : Transfer) (t u : Top) (cs : Children) → None ≡ find x.child cs → u ≡ caller_after x (fresh_top (t.fuel + t.used)) t
    → u ≡ with_taken x t (find x.child cs)
taken_missing x t u cs at is = is ∙ ap (with_taken x t) at

-- the conflict with a child that was found, or with a fresh one
pub conflict_there : (x : Transfer) (t c : Top) (s : Space) (cs : Children) → Some s ≡ find x.child cs → c ≡ top_of s
    → get_conflict x t c ≡ get_conflict x t (or_fresh t (option_map top_of (find x.child cs)))
conflict_there x t c s cs at top = ap (get_conflict x t) top ∙ ap (λ o. get_conflict x t (or_fresh t (option_map top_of o))) at

pub conflict_missing : (x : Transfer) (t : Top) (cs : Children) → None ≡ find x.child cs
    → get_conflict x t (fresh_top (t.fuel + t.used)) ≡ get_conflict x t (or_fresh t (option_map top_of (find x.child cs)))
conflict_missing x t cs at = ap (λ o. get_conflict x t (or_fresh t (option_map top_of o))) at

-- calls that merge nothing find no conflict
pub put_free : (x : Transfer) (k : Call) (s : Space) → Put x ≡ k → conflict_of k s ≡ None
unfolding conflict_of
put_free x k s is = ap (λ l. conflict_of l s) (sym is)

pub put_tree_free : (n from to : ℕ) (k : Call) (s : Space) → PutTree n from to ≡ k → conflict_of k s ≡ None
unfolding conflict_of
put_tree_free n from to k s is = ap (λ l. conflict_of l s) (sym is)

pub get_tree_free : (n from to : ℕ) (k : Call) (s : Space) → GetTree n from to ≡ k → conflict_of k s ≡ None
unfolding conflict_of
get_tree_free n from to k s is = ap (λ l. conflict_of l s) (sym is)

-- a part that neither reads nor writes what an event takes
record Passes (p : Part) : Type 0 where
  paid : (t : Top) → p (after_payment t t) ≡ after_payment (p t) (p t)
  pays : (t : Top) → MayPay t → MayPay (p t)

abbrev AllPass : List (ℕ × Part) → Type 0
AllPass [] = Unit {0}
AllPass (p ∷ ps) = Passes p.1 × AllPass ps

optional_paid : (asked : Bool) (p : Part) (t : Top) → Passes p → part_if asked p (after_payment t t) ≡ after_payment (part_if asked p t) (part_if asked p t)
optional_paid true p t h = h.paid t
optional_paid false p t h = refl

optional_pays : (asked : Bool) (p : Part) (t : Top) → Passes p → MayPay t → MayPay (part_if asked p t)
optional_pays true p t h pays = h.pays t pays
optional_pays false p t h pays = pays

parts_paid : (options : ℕ) (ps : List (ℕ × Part)) (t : Top) → AllPass ps → with_parts options ps (after_payment t t) ≡ after_payment (with_parts options ps t) (with_parts options ps t)
parts_paid options [] t h = refl
parts_paid options (p ∷ ps) t h =
    ap (with_parts options ps) (optional_paid (has p.0 options) p.1 t h.0) ∙ parts_paid options ps (part_if (has p.0 options) p.1 t) h.1

parts_pay : (options : ℕ) (ps : List (ℕ × Part)) (t : Top) → AllPass ps → MayPay t → MayPay (with_parts options ps t)
parts_pay options [] t h pays = pays
parts_pay options (p ∷ ps) t h pays = parts_pay options ps (part_if (has p.0 options) p.1 t) h.1 (optional_pays (has p.0 options) p.1 t h.0 pays)

-- the parts of a Get
get_passes : (x : Transfer) (c : Top) → AllPass (get_parts x c)
get_passes x c = (
  record { paid = λ t. refl; pays = λ t h. record { running = h.running; fuel = h.fuel; limit = h.limit } },
  (
    record { paid = λ t. refl; pays = λ t h. record { running = h.running; fuel = h.fuel; limit = h.limit } },
    (
      record { paid = λ t. refl; pays = λ t h. record { running = h.running; fuel = h.fuel; limit = h.limit } },
      (
        record { paid = λ t. refl; pays = λ t h. record { running = h.running; fuel = h.fuel; limit = h.limit } },
        (record { paid = λ t. refl; pays = λ t h. record { running = h.running; fuel = h.fuel; limit = h.limit } }, tt),
      ),
    ),
  ),
)

taken_paid : (x : Transfer) (c t : Top) → caller_after x c (after_payment t t) ≡ after_payment (caller_after x c t) (caller_after x c t)
unfolding caller_after
taken_paid x c t = parts_paid x.options (get_parts x c) t (get_passes x c)

pub taken_pays : (x : Transfer) (c t u : Top) (s : Space) (cs : Children) → space t cs ≡ s → MayPay (top_of s) → u ≡ caller_after x c t → MayPay u
unfolding caller_after
taken_pays x c t u s cs view pays is = subst MayPay (sym is) (parts_pay x.options (get_parts x c) t (get_passes x c) (subst (λ r. MayPay (top_of r)) (sym view) pays))

pub put_met : (x : Transfer) (s : Space) (t u : Top) (cs ds : Children) → space t cs ≡ s → 0 < (top_of s).fuel
    → ds ≡ edit (change x.child (child_after x t (or_fresh t (option_map top_of (find x.child cs))))) cs → u ≡ after_success (after_payment t t) → space u ds ≡ with_action (Put x) s
unfolding with_action child_after
put_met x s t u cs ds view some edited went =
    let p = after_payment t t in
    let o = option_map top_of (find x.child cs) in
    let fuel : 0 < t.fuel = subst (λ r. 0 < (top_of r).fuel) (sym view) some in
    ap (λ v. space v ds) went ∙ ap (space (after_success p)) edited
    ∙ ap (λ c. space (after_success p) (edit (change x.child (child_after x t c)) cs)) (sym (or_fresh-paid t o fuel))
    ∙ ap (with_action (Put x)) view

pub get_met : (x : Transfer) (s : Space) (t u v : Top) (cs : Children) → space t cs ≡ s → 0 < (top_of s).fuel
    → u ≡ caller_after x (or_fresh t (option_map top_of (find x.child cs))) t → v ≡ after_success (after_payment u u) → space v cs ≡ with_action (Get x) s
unfolding with_action caller_after
get_met x s t u v cs view some taken went =
    let o = option_map top_of (find x.child cs) in
    let fuel : 0 < t.fuel = subst (λ r. 0 < (top_of r).fuel) (sym view) some in
    ap (λ w. space w cs) (went ∙ ap (λ w. after_success (after_payment w w)) taken ∙ ap after_success (sym (taken_paid x (or_fresh t o) t)))
    ∙ ap (λ c. space (after_success (caller_after x c (after_payment t t))) cs) (sym (or_fresh-paid t o fuel))
    ∙ ap (with_action (Get x)) view

-- the conflict that a caller which has paid finds is the one that it found before
pub conflict_met : (x : Transfer) (s : Space) (t : Top) (cs : Children) → space t cs ≡ s → 0 < (top_of s).fuel → get_conflict x t (or_fresh t (option_map top_of (find x.child cs))) ≡ conflict_of (Get x) s
unfolding conflict_of
conflict_met x s t cs view some =
    let o = option_map top_of (find x.child cs) in
    let fuel : 0 < t.fuel = subst (λ r. 0 < (top_of r).fuel) (sym view) some in
    ap (get_conflict x t) (sym (or_fresh-paid t o fuel)) ∙ ap (conflict_of (Get x)) view

-- three tests, of which the last is that of a conflict
three_tests : (a b c : Option Refusal) → first_refusal (a ∷ b ∷ []) ≡ None → first_refusal (a ∷ b ∷ c ∷ []) ≡ c
three_tests None None None h = refl
three_tests None None (Some r) h = refl
three_tests None (Some q) c h = cc
three_tests (Some p) b c h = cc

three_stops : (a b c : Option Refusal) (r : Refusal) → first_refusal (a ∷ b ∷ []) ≡ Some r → first_refusal (a ∷ b ∷ c ∷ []) ≡ Some r
three_stops None None c r h = cc
three_stops None (Some q) c r h = h
three_stops (Some p) b c r h = h

-- where no early test stops the caller of a Put or a Get, the conflict does, if there is one
early_then : (levels : ℕ) (k : Call) (t : Top) (seen : List Seen) → IsPutOrGet k → first_refusal (early_refusals levels k t seen) ≡ None → first_refusal (refusals levels k t seen) ≡ last_refusal k t seen
early_then levels (Get x) t seen is h = three_tests _ _ _ h
early_then levels (Put x) t seen is h = h
early_then levels (PutTree n from to) t seen is h = h
early_then levels (GetTree n from to) t seen is h = h
early_then levels k t seen is h = absurd is

early_stops : (levels : ℕ) (k : Call) (t : Top) (seen : List Seen) (r : Refusal) → IsPutOrGet k → first_refusal (early_refusals levels k t seen) ≡ Some r → first_refusal (refusals levels k t seen) ≡ Some r
early_stops levels (Get x) t seen r is h = three_stops _ _ _ r h
early_stops levels (Put x) t seen r is h = h
early_stops levels (PutTree n from to) t seen r is h = h
early_stops levels (GetTree n from to) t seen r is h = h
early_stops levels k t seen r is h = absurd is

unless_is : (o : Option Refusal) (k : Call) (s : Space)
    → unless_conflict o k s ≡ apply_meeting (unless_refused o (after_payment (top_of s) (top_of s)) (action k (after_payment (top_of s) (top_of s)) (seen_of (awaits k) (children_of s)))) (children_of s)
unfolding with_action
unless_is None k s = refl
unless_is (Some r) k s = refl

-- a meeting that no early test stops
pub acts_met : (levels : ℕ) (k : Call) (s u : Space) → IsPutOrGet k → None ≡ early_of levels k s → u ≡ acts_or_stops k s → u ≡ meet levels k (after_payment (top_of s) (top_of s)) (children_of s)
unfolding early_of acts_or_stops conflict_of
acts_met levels k s u put_or_get early is =
    let p = after_payment (top_of s) (top_of s) in
    let seen = seen_of (awaits k) (children_of s) in
    let first = early_then levels k p seen put_or_get (sym early) in
    is ∙ unless_is (last_refusal k p seen) k s ∙ ap (λ o. apply_meeting (unless_refused o p (action k p seen)) (children_of s)) (sym first)

-- and one that an early test stops
pub stops_met : (levels : ℕ) (k : Call) (s : Space) (r : Refusal) (t u : Top) (cs : Children) → IsPutOrGet k → space t cs ≡ s → Some r ≡ early_of levels k s → u ≡ stop (after_payment t t) r.cause r.value
    → space u cs ≡ meet levels k (after_payment (top_of s) (top_of s)) (children_of s)
unfolding early_of
stops_met levels k s r t u cs put_or_get view early is =
    let p = after_payment (top_of s) (top_of s) in
    let seen = seen_of (awaits k) (children_of s) in
    let first = early_stops levels k p seen r put_or_get (sym early) in
    ap (λ v. space v cs) is ∙ ap (λ q. space (stop (after_payment (top_of q) (top_of q)) r.cause r.value) (children_of q)) view
    ∙ ap (λ o. apply_meeting (unless_refused o p (action k p seen)) (children_of s)) (sym first)

-- a call that was done found no conflict
pub acts_free : (k : Call) (s u : Space) → conflict_of k s ≡ None → u ≡ with_action k s → u ≡ acts_or_stops k s
unfolding acts_or_stops
acts_free k s u free is = is ∙ ap (λ o. unless_conflict o k s) (sym free)

-- one that was not has left its caller to stop
pub stops_at : (k : Call) (s : Space) (addr : ℕ) (t u : Top) (cs : Children) → space t cs ≡ s → conflict_of k s ≡ Some (record { cause = Conflict; value = addr }) → u ≡ stop (after_payment t t) Conflict addr
    → space u cs ≡ acts_or_stops k s
unfolding acts_or_stops
stops_at k s addr t u cs view found is =
    ap (λ v. space v cs) is ∙ ap (λ q. space (stop (after_payment (top_of q) (top_of q)) Conflict addr) (children_of q)) view ∙ ap (λ o. unless_conflict o k s) (sym found)

-- the same call by another name
pub acted_as : {E : Type 0} (r : Result (Unit {0}) E) (k l : Call) (s u : Space) → k ≡ l → OnOk r (u ≡ with_action k s) → OnOk r (u ≡ with_action l s)
acted_as r k l s u same met = on_ok_weaker r (λ e. e ∙ ap (λ m. with_action m s) same) met
