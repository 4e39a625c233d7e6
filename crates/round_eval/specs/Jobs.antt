-- Spaces that go on side by side: each with its path, its top and how many local events it had.
-- Our choice: a restatement for proofs.
use Rattle.std.specs.Prelude.{◌≡◌, ℕ, ◌+◌, ◌-◌, List, [], ◌∷◌, length, map}
use Rattle.call_model.specs.Limits.{levels_below}
use Rattle.space_model.specs.Event.{Follows}
use Rattle.det_laws.specs.Moved.{Placed}
use Rattle.round_eval.specs.declared.job.Job.{Job}
use Rattle.round_eval.specs.declared.job.Done.{Done}

abbrev pub job_out : Job → Placed
job_out j = (j.path.items, j.top)

abbrev pub jobs_out : List Job → List Placed
jobs_out js = map job_out js

abbrev pub done_out : Done → Placed
done_out d = (d.path.items, d.top)

abbrev pub dones_out : List Done → List Placed
dones_out ds = map done_out ds

-- at its path, so many local events lead from the top that was handed out to the one that comes back
pub record WentOn (j : Job) (d : Done) : Type 0 where
  pub path : d.path.items ≡ j.path.items
  pub follows : Follows (levels_below (length j.path.items)) d.ran j.top d.top

-- how many events there were in all
abbrev pub events_of : List Done → ℕ
events_of [] = 0
events_of (d ∷ ds) = d.ran + events_of ds
