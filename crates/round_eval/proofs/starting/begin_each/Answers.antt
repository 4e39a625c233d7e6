use Rattle.round_eval.proofs.Jobs.{one_more_begun}
use Rattle.round_eval.proofs.starting.begin_each.Goals as goal

pub loop-job-preserved : goal.loop-job-preserved
loop-job-preserved g c = one_more_begun c.loop-job.yielded c.in-Some.job c.loop-job.begun.items c.push.new.self.items c.begin_one.result c.in_ok-push.ensures.items c.loop-job.invariant c.begin_one.ensures
