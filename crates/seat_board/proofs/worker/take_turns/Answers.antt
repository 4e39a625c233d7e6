use Rattle.std.proofs.Common.{◌∙◌}
use Rattle.seat_board.specs.Passes.{known}
use Rattle.seat_board.proofs.Working.{goes_on, goes_home, idle_none, same_itself, same_trans}
use Rattle.seat_board.proofs.worker.take_turns.Goals as goal

pub loop-init : goal.loop-init
loop-init g c = (c.requires.here, same_itself (known c.args.pass), idle_none (known c.args.pass) c.requires.idle)

pub step-requires-clause-pass : goal.step-requires-clause-pass
step-requires-clause-pass g c κs within = c.loop.invariant.0

pub step-requires-clause-done : goal.step-requires-clause-done
step-requires-clause-done g c κs within = c.loop.invariant.2

pub loop-preserved : goal.loop-preserved
loop-preserved g c = (
  c.step.ensures.pass ∙ c.loop.invariant.0,
  same_trans (known c.args.pass) (known c.loop.pass) (known c.step.new.pass) c.loop.invariant.1 c.step.ensures.same,
  goes_on c.in_ok-next.next c.in-Some-next.next (known c.step.new.pass) c.in-Some-next.is c.in_ok-next.ensures.goes,
)

pub returns-in-None-next : goal.returns-in-None-next
returns-in-None-next g c =
    let home = goes_home c.in_ok-next.next (known c.step.new.pass) c.in-None-next.is c.in_ok-next.ensures.goes in
    record {
      ready = record { here = c.step.ensures.pass ∙ c.loop.invariant.0; idle = home.0 };
      same = same_trans (known c.args.pass) (known c.loop.pass) (known c.step.new.pass) c.loop.invariant.1 c.step.ensures.same;
      over = home.1;
      had = c.in_ok-next.ensures.had;
    }
