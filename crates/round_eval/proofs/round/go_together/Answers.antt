use Rattle.std.proofs.Common.{◌≤◌, subst}
use Rattle.round_eval.specs.Jobs.{events_of}
use Rattle.round_eval.proofs.Jobs.{all_back, all_stand}
use Rattle.round_eval.proofs.Later.{went}
use Rattle.round_eval.proofs.round.go_together.Goals as goal

pub put_all-requires : goal.put_all-requires
put_all-requires g c =
    all_stand c.in_ok-jobs.jobs.items c.in_ok-dones.dones.items c.args.space.now c.take_all.new.space c.in_ok-jobs.ensures c.in_ok-dones.ensures

pub returns : goal.returns
returns g c =
    let reached = all_back c.in_ok-jobs.jobs.items c.in_ok-dones.dones.items c.args.space.now c.take_all.new.space c.put_all.new.space c.in_ok-jobs.ensures c.in_ok-dones.ensures
    c.in_ok-put_all.ensures in
    went c.args.space.now c.put_all.new.space (events_of c.in_ok-dones.dones.items) c.any_ran-some.result reached
    (λ some. subst (λ ds. 1 ≤ events_of ds) c.deref.ensures.value (c.any_ran-some.ensures some))
