-- Tops that are taken out and put back, one after the other.
use Rattle.std.proofs.Common.{◌≡◌, ℕ, Bool, true, false, not, List, [], ◌∷◌, ◌++◌, Some, refl, sym, ap, ◌∙◌, subst}
use Rattle.std.specs.Prelude.{Option, IfSome, option_map}
use Rattle.std.specs.List.{All}
use Rattle.std.proofs.lemmas.List.Elements.{All-nil, All-cons, All-head, All-tail}
use Rattle.space_model.specs.Stop.{is_stopped}
use Rattle.space_model.specs.Space.{Top, Space, top_of}
use Rattle.space_model.specs.Path.{at, with_top}
use Rattle.det_laws.specs.Moved.{paths_of, with_tops, HasSpace, HasRunning, IsTaken, AreOut}
use Rattle.det_laws.proofs.Moved.{top_space, tops-append, paths-append, spaces_stay, one_more_out}
use Rattle.round_eval.specs.declared.job.Job.{Job}
use Rattle.round_eval.specs.declared.job.Done.{Done}
use Rattle.round_eval.specs.Jobs.{job_out, jobs_out, done_out, dones_out}

pub not_true : (b : Bool) → not b ≡ true → b ≡ false
not_true true e = sym e
not_true false e = refl

pub runs_here : (p : List ℕ) (s c : Space) → at p s ≡ Some c → is_stopped (top_of c).status ≡ false → HasRunning s p
runs_here p s c is runs = (top_of c, ap (option_map top_of) is, runs)

pub stands_where_it_runs : (p : List ℕ) (s : Space) → HasRunning s p → HasSpace s p
stands_where_it_runs p s h = let c = top_space p s h.0 h.1 in (c.0, c.1)

pub taken : (p : List ℕ) (t u : Top) (old new : Space) → HasRunning old p → IfSome (at p old) (λ s. t ≡ top_of s) → is_stopped u.status ≡ true
    → new ≡ with_top p u old → IsTaken p t old new
taken p t u old new running former stopped now =
    let c = top_space p old running.0 running.1 in
    let found : t ≡ top_of c.0 = subst (λ (o : Option Space). IfSome o (λ s. t ≡ top_of s)) c.1 former in
    let same : t ≡ running.0 = found ∙ c.2 in
    record { stood = running.1 ∙ ap Some (sym same); runs = ap (λ x. is_stopped x.status) same ∙ running.2; other = u; stopped = stopped; now = now }

jobs-append : (js : List Job) (j : Job) → jobs_out (js ++ j ∷ []) ≡ jobs_out js ++ job_out j ∷ []
jobs-append [] j = refl
jobs-append (k ∷ js) j = ap (λ xs. job_out k ∷ xs) (jobs-append js j)

pub one_more_job : (js ks : List Job) (j : Job) (start now later : Space) → ks ≡ js ++ j ∷ [] → AreOut (jobs_out js) start now
    → IsTaken j.path.items j.top now later → AreOut (jobs_out ks) start later
one_more_job js ks j start now later pushed out taken =
    subst (λ xs. AreOut xs start later) (sym (ap jobs_out pushed ∙ jobs-append js j)) (one_more_out (jobs_out js) j.path.items j.top start now later out taken)

-- tops that are still to be put back
pub record AreLeft (left all : List Done) (now before : Space) : Type 0 where
  pub stand : All (HasSpace now) (paths_of (dones_out left))
  pub same : with_tops (dones_out left) now ≡ with_tops (dones_out all) before

dones-append : (ds : List Done) (d : Done) → dones_out (ds ++ d ∷ []) ≡ dones_out ds ++ done_out d ∷ []
dones-append [] d = refl
dones-append (e ∷ ds) d = ap (λ xs. done_out e ∷ xs) (dones-append ds d)

all_front : {T : Type 0} (P : T → Type 0) (xs : List T) (y : T) → All P (xs ++ y ∷ []) → All P xs × P y
all_front P [] y all = (All-nil P, All-head P y [] all)
all_front P (x ∷ xs) y all =
    let rest = all_front P xs y (All-tail P x (xs ++ y ∷ []) all) in
    (All-cons P x xs (All-head P x (xs ++ y ∷ []) all) rest.0, rest.1)

split_last : (left rest all : List Done) (d : Done) (now before : Space) → left ≡ rest ++ d ∷ [] → AreLeft left all now before
    → All (HasSpace now) (paths_of (dones_out rest) ++ d.path.items ∷ [])
split_last left rest all d now before popped so_far =
    subst (All (HasSpace now)) (ap (λ ds. paths_of (dones_out ds)) popped ∙ ap paths_of (dones-append rest d) ∙ paths-append (dones_out rest) (done_out d ∷ [])) so_far.stand

pub last_stands : (left rest all : List Done) (d : Done) (now before : Space) → left ≡ rest ++ d ∷ [] → AreLeft left all now before → HasSpace now d.path.items
last_stands left rest all d now before popped so_far =
    (all_front (HasSpace now) (paths_of (dones_out rest)) d.path.items (split_last left rest all d now before popped so_far)).1

pub one_put_back : (left rest all : List Done) (d : Done) (now later before : Space) → left ≡ rest ++ d ∷ [] → AreLeft left all now before
    → later ≡ with_top d.path.items d.top now → AreLeft rest all later before
one_put_back left rest all d now later before popped so_far put = record {
  stand = subst (λ s. All (HasSpace s) (paths_of (dones_out rest))) (sym put)
      (spaces_stay d.path.items d.top now (paths_of (dones_out rest))
      (all_front (HasSpace now) (paths_of (dones_out rest)) d.path.items (split_last left rest all d now before popped so_far)).0);
  same = ap (with_tops (dones_out rest)) put
      ∙ sym (tops-append (dones_out rest) (done_out d ∷ []) now)
      ∙ ap (λ xs. with_tops xs now) (sym (dones-append rest d))
      ∙ ap (λ ds. with_tops (dones_out ds) now) (sym popped)
      ∙ so_far.same;
}

pub none_left : (left all : List Done) (now before : Space) → left ≡ [] → AreLeft left all now before → now ≡ with_tops (dones_out all) before
none_left left all now before none so_far = sym (ap (λ ds. with_tops (dones_out ds) now) none) ∙ so_far.same
