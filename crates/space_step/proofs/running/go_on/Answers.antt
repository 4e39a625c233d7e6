use Rattle.std.proofs.Common.{arith}
use Rattle.space_step.proofs.Following.{follows_append}
use Rattle.space_step.proofs.Advancing.{blocked_ends}
use Rattle.space_step.proofs.running.go_on.Goals as goal

pub stretches-preserved : goal.stretches-preserved
stretches-preserved g c =
    let went = rw c.in-Went.is at c.proceed.ensures.goes in
    (follows_append _ _ _ _ _ _ c.stretches.invariant.0 went.0, omega (arith, went.1), c.proceed.ensures.agrees)

pub returns-in-Blocked-clause-advances : goal.returns-in-Blocked-clause-advances
returns-in-Blocked-clause-advances g c =
    let blocked = rw c.in-Blocked.is at c.proceed.ensures.goes in
    record {
      follows = follows_append _ _ _ _ _ _ c.stretches.invariant.0 blocked.0;
      ended = blocked_ends _ _ _ _ _ _ blocked.1 blocked.2;
    }
