-- What the answers of a shop say of it.
-- Our choice: a shop hands out jobs one by one, and tells a worker that there is nothing to do just where it is idle.
use Rattle.std.specs.Prelude.{ℕ, ◌+◌, Bool, true, false, cond, Result, Ok, Err}
use Rattle.worker_pool.specs.declared.shop.Turn.{Turn}
use Rattle.worker_pool.specs.declared.shop.Turn.TheVariants.{Job, Met, Rest, Over}

-- a job is handed out
abbrev pub is_job : {J : Type 0} → Turn J → Bool
is_job (Job j) = true
is_job Met = false
is_job Rest = false
is_job Over = false

-- there is nothing to do
abbrev pub is_idle : {J : Type 0} → Turn J → Bool
is_idle (Job j) = false
is_idle Met = false
is_idle Rest = true
is_idle Over = true

-- how many jobs are out after a turn, of n before it
abbrev pub owed_after : {J E : Type 0} → Result (Turn J) E → ℕ → ℕ
owed_after (Ok t) n = cond (is_job t) (n + 1) n
owed_after (Err e) n = n
