-- A job that was begun, by a thread or by the caller.
-- Our choice: a restatement for proofs.
use Rattle.std.specs.Prelude.{◌≡◌, IfOk}
use Rattle.round_eval.specs.declared.job.Job.{Job}
use Rattle.round_eval.specs.declared.begun.Begun.{Begun}
use Rattle.round_eval.specs.declared.begun.Begun.TheVariants.{Running, Ended}
use Rattle.round_eval.specs.Jobs.{WentOn}

-- the thread promised what becomes of this job, or this is what became of it
abbrev pub IsFor : Job → Begun → Type 0
IsFor job (Running handle) = let promise = handle.promise in promise.0.value ≡ job
IsFor job (Ended result) = IfOk result (λ done. WentOn job done)
