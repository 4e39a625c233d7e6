use Rattle.std.proofs.Common.{subst}
use Rattle.board.specs.Turns.{IsTurn}
use Rattle.board.proofs.Turns.{only_out}
use Rattle.board.proofs.alone.run_alone.Goals as goal

pub work_at-requires : goal.work_at-requires
work_at-requires g c =
    let turn = subst (λ t. IsTurn 0 c.loop.board t c.next_turn.new.self) c.in-Job.is c.in_ok-job.ensures.is in
    let from = turn.1 in
    (only_out from.node c.loop.board c.next_turn.new.self c.in-Job.job c.loop.invariant.2 from.goes).0
