use Rattle.std.proofs.Common.{arith}
use Rattle.space_step.proofs.Following.{follows_append}
use Rattle.space_step.proofs.run.Run.go_on.Goals as goal

pub invariant_of-result : goal.invariant_of-result
invariant_of-result c =
    let so_far = c.self.invariant in
    let more = c.in-Ok.ensures in
    record {
      depth = so_far.depth;
      follows = follows_append _ _ _ _ _ _ so_far.follows more.follows;
      none = λ e. so_far.none (omega (arith, e));
    }
