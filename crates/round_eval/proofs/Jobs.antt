-- Spaces that went on side by side: put back into their tree, they are so many events of a schedule.
use Rattle.std.proofs.Common.{◌≡◌, ℕ, zero, ◌+◌, ◌-◌, ◌<◌, ◌≤◌, suc, List, [], ◌∷◌, ◌++◌, length, map, get_or, Some, refl, sym, ◌∙◌, ap, ap₂, subst, arith}
use Rattle.std.specs.Prelude.{Result, Ok, Err, IfOk, MatchResult, Contains}
use Rattle.std.specs.List.{All, AllZip}
use Rattle.std.proofs.lemmas.List.Elements.{All-head, All-tail}
use Rattle.space_model.specs.Space.{Space, top_of}
use Rattle.space_model.specs.Path.{with_top}
use Rattle.space_model.specs.Event.{Follows}
use Rattle.det_laws.specs.Leads.{Reaches}
use Rattle.det_laws.specs.Tops.{top_at}
use Rattle.det_laws.specs.Moved.{Placed, paths_of, with_tops, AreApart, HasSpace, AreOut}
use Rattle.det_laws.proofs.Leading.{stays, goes_on}
use Rattle.det_laws.proofs.Local.{local_reaches}
use Rattle.det_laws.proofs.Moved.{Avoids, top_space, other_tops, stopped_stand}
use Rattle.round_eval.specs.declared.job.Job.{Job}
use Rattle.round_eval.specs.declared.job.Done.{Done}
use Rattle.round_eval.specs.declared.begun.Begun.{Begun}
use Rattle.round_eval.specs.Begun.{IsFor}
use Rattle.round_eval.specs.Jobs.{job_out, jobs_out, dones_out, WentOn, events_of}

-- each comes back to where it was
pub same_paths : (jobs : List Job) (dones : List Done) → AllZip WentOn jobs dones → paths_of (dones_out dones) ≡ paths_of (jobs_out jobs)
same_paths [] [] went = refl
same_paths [] (d ∷ ds) went = absurd went
same_paths (j ∷ js) [] went = absurd went
same_paths (j ∷ js) (d ∷ ds) went = ap₂ (λ p ps. p ∷ ps) went.0.path (same_paths js ds went.1)

-- one more event, and then n: in the order in which the tops are put back
one_went : (j : Job) (d : Done) (start later : Space) (n : ℕ) → WentOn j d → top_at j.path.items later ≡ Some j.top → Reaches 8 start n later
    → Reaches 8 start (d.ran + n) (with_top d.path.items d.top later)
one_went j d start later n went stood so_far =
    let c = top_space j.path.items later j.top stood in
    let follows : Follows (8 - length j.path.items) d.ran (top_of c.0) d.top = subst (λ t. Follows (8 - length j.path.items) d.ran t d.top) (sym c.2) went.follows in
    let step = local_reaches d.ran j.path.items 8 later c.0 d.top c.1 follows in
    let both = goes_on 8 start later _ n d.ran so_far step in
    let sum : n + d.ran ≡ d.ran + n = omega arith in
    subst (λ k. Reaches 8 start k (with_top d.path.items d.top later)) sum
    (subst (λ p. Reaches 8 start (n + d.ran) (with_top p d.top later)) (sym went.path) both)

pub all_went : (jobs : List Job) (dones : List Done) (start : Space) → AllZip WentOn jobs dones → AreApart (paths_of (jobs_out jobs))
    → All (λ x. top_at x.0 start ≡ Some x.1) (jobs_out jobs) → Reaches 8 start (events_of dones) (with_tops (dones_out dones) start)
all_went [] [] start went apart stood = stays 8 start
all_went [] (d ∷ ds) start went apart stood = absurd went
all_went (j ∷ js) [] start went apart stood = absurd went
all_went (j ∷ js) (d ∷ ds) start went apart stood =
    let P : Placed → Type 0 = λ x. top_at x.0 start ≡ Some x.1 in
    let rest = all_went js ds start went.1 apart.1 (All-tail P (job_out j) (jobs_out js) stood) in
    let away : Avoids j.path.items (paths_of (dones_out ds)) = subst (Avoids j.path.items) (sym (same_paths js ds went.1)) apart.0 in
    let here : top_at j.path.items (with_tops (dones_out ds) start) ≡ Some j.top =
    other_tops j.path.items (dones_out ds) start away ∙ All-head P (job_out j) (jobs_out js) stood in
    one_went j d start (with_tops (dones_out ds) start) (events_of ds) went.0 here rest

-- the tops that come back, put into the tree that they are out of
pub all_back : (jobs : List Job) (dones : List Done) (start now later : Space) → AreOut (jobs_out jobs) start now → AllZip WentOn jobs dones
    → later ≡ with_tops (dones_out dones) now → Reaches 8 start (events_of dones) later
all_back jobs dones start now later out went put =
    subst (λ s. Reaches 8 start (events_of dones) s) (sym (put ∙ out.back (dones_out dones) (same_paths jobs dones went)))
    (all_went jobs dones start went out.apart out.stood)

-- where one of them had an event, there were some
pub some_ran : (ds : List Done) (i : ℕ) (x : Done) → i < length ds → 1 ≤ (get_or ds i x).ran → 1 ≤ events_of ds
some_ran [] i x within ran = absurd (omega arith)
some_ran (d ∷ ds) zero x within ran = omega arith
some_ran (d ∷ ds) (suc i) x within ran = let rest = some_ran ds i x (omega arith) ran in omega (arith, rest)

-- where each answer of a list is Ok, what holds of each answer holds of what it has
pub zip_ok : {X Z E : Type 0} (R : X → Result Z E → Type 0) (S : X → Z → Type 0) → ((x : X) (z : Z) → R x (Ok z) → S x z) → (xs : List X) (zs : List Z)
    → AllZip R xs (map Ok zs) → AllZip S xs zs
zip_ok R S turn [] [] all = tt
zip_ok R S turn [] (z ∷ zs) all = absurd all
zip_ok R S turn (x ∷ xs) [] all = absurd all
zip_ok R S turn (x ∷ xs) (z ∷ zs) all = (turn x z all.0, zip_ok R S turn xs zs all.1)

-- what is answered of all jobs, where all answers are Ok
pub all_answered : {V E : Type 0} (items : V → List Done) (R : Job → Result Done E → Type 0) → ((j : Job) (d : Done) → R j (Ok d) → WentOn j d) → (jobs js : List Job)
    (rs : List (Result Done E)) (r : Result V E) → js ≡ jobs → AllZip R js rs
    → MatchResult r (λ v. (ds : List Done) × (rs ≡ map Ok ds) × (items v ≡ ds)) (λ e. Contains rs (Err e)) → IfOk r (λ v. AllZip WentOn jobs (items v))
all_answered items R turn jobs js rs (Err e) same all answers = tt
all_answered items R turn jobs js rs (Ok v) same all answers =
    let ds = answers.0 in
    let each : AllZip R js (map Ok ds) = subst (AllZip R js) answers.1 all in
    let went : AllZip WentOn js ds = zip_ok R WentOn turn js ds each in
    subst (λ xs. AllZip WentOn xs (items v)) same (subst (AllZip WentOn js) (sym answers.2) went)

-- spaces stand where the tops are to be put back
pub all_stand : (jobs : List Job) (dones : List Done) (start now : Space) → AreOut (jobs_out jobs) start now → AllZip WentOn jobs dones
    → All (HasSpace now) (paths_of (dones_out dones))
all_stand jobs dones start now out went =
    subst (All (HasSpace now)) (sym (same_paths jobs dones went)) (stopped_stand now (paths_of (jobs_out jobs)) out.held)

-- one more of each
pub zip_push : {X Y : Type 0} (R : X → Y → Type 0) (xs : List X) (ys : List Y) (x : X) (y : Y) → AllZip R xs ys → R x y → AllZip R (xs ++ x ∷ []) (ys ++ y ∷ [])
zip_push R [] [] x y all one = (one, tt)
zip_push R [] (b ∷ ys) x y all one = absurd all
zip_push R (a ∷ xs) [] x y all one = absurd all
zip_push R (a ∷ xs) (b ∷ ys) x y all one = (all.0, zip_push R xs ys x y all.1 one)

-- the last of each
record Parted {X Y : Type 0} (R : X → Y → Type 0) (xs : List X) (ys : List Y) (y : Y) : Type 0 where
  rest : List X
  last : X
  is : xs ≡ rest ++ last ∷ []
  all : AllZip R rest ys
  one : R last y

part_last : {X Y : Type 0} (R : X → Y → Type 0) (xs : List X) (ys : List Y) (y : Y) → AllZip R xs (ys ++ y ∷ []) → Parted R xs ys y
part_last R [] [] y all = absurd all
part_last R (x ∷ []) [] y all = record { rest = []; last = x; is = refl; all = tt; one = all.0 }
part_last R (x ∷ w ∷ xs) [] y all = absurd all.1
part_last R [] (b ∷ ys) y all = absurd all
part_last R (x ∷ xs) (b ∷ ys) y all =
    let below = part_last R xs ys y all.1 in
    record { rest = x ∷ below.rest; last = below.last; is = ap (λ zs. x ∷ zs) below.is; all = (all.0, below.all); one = below.one }

-- all but the last, and the last
pub with_last : (jobs rest : List Job) (last : Job) (all dones : List Done) (own : Done) → jobs ≡ rest ++ last ∷ [] → all ≡ dones ++ own ∷ [] → AllZip WentOn rest dones → WentOn last own → AllZip WentOn jobs all
with_last jobs rest last all dones own is are went one = rw (is, are) (zip_push WentOn rest dones last own went one)

-- one more was begun
pub one_more_begun : (jobs : List Job) (job : Job) (begun more : List Begun) (one : Begun) → more ≡ begun ++ one ∷ [] → AllZip IsFor jobs begun → IsFor job one → AllZip IsFor (jobs ++ job ∷ []) more
one_more_begun jobs job begun more one is all for = rw is (zip_push IsFor jobs begun job one all for)

-- and one more has ended
pub one_more_ended : (begun : List Begun) (one : Begun) (dones more : List Done) (done : Done) → more ≡ dones ++ done ∷ [] → ((js : List Job) → AllZip IsFor js begun → AllZip WentOn js dones)
    → ((j : Job) → IsFor j one → WentOn j done) → (js : List Job) → AllZip IsFor js (begun ++ one ∷ []) → AllZip WentOn js more
one_more_ended begun one dones more done is so_far ended js all =
    let parts = part_last IsFor js begun one all in
    with_last js parts.rest parts.last more dones done parts.is is (so_far parts.rest parts.all) (ended parts.last parts.one)

pub none_ended : (dones : List Done) → dones ≡ [] → (js : List Job) → AllZip IsFor js [] → AllZip WentOn js dones
none_ended dones is [] all = rw is tt
none_ended dones is (j ∷ js) all = absurd all
