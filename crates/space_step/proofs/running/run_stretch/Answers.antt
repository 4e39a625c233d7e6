use Rattle.std.proofs.Common.{◌-◌, ap, arith}
use Rattle.space_step.proofs.Advancing.{one_more_goes, wanting_is_blocked}
use Rattle.space_model.specs.Space.{console_bytes}
use Rattle.space_step.proofs.Answers.{store_is_next}
use Rattle.space_step.proofs.WithOutput.{some_quiet, one_more_writes}
use Rattle.space_step.proofs.running.run_stretch.Goals as goal

pub returns-in-Ok-Local-clause-goes : goal.returns-in-Ok-Local-clause-goes
returns-in-Ok-Local-clause-goes g c =
    let end = rw c.in-Call.is at c.execute_paid-count.ensures.end in
    let answer = rw c.in-Ok-Local.field-0-is at c.in-Ok-Local.ensures.steps in
    one_more_goes _ _ _ _ _ _ (c.execute_paid-count.ensures.follows (8 - c.args.depth)) end.0 answer

pub returns-in-Trap-clause-goes : goal.returns-in-Trap-clause-goes
returns-in-Trap-clause-goes g c =
    let end = rw c.in-Trap.is at c.execute_paid-count.ensures.end in
    one_more_goes _ _ _ _ _ _ (c.execute_paid-count.ensures.follows (8 - c.args.depth)) end.0 (c.trap.ensures.next (8 - c.args.depth))

pub returns-in-Memory-clause-goes : goal.returns-in-Memory-clause-goes
returns-in-Memory-clause-goes g c =
    let end = rw c.in-Memory.is at c.execute_paid-count.ensures.end in
    (c.execute_paid-count.ensures.follows (8 - c.args.depth), end.0, store_is_next _ _ (c.execute_paid-count.ensures.may_pay end.0) end.1)

pub returns-in-Err-clause-goes : goal.returns-in-Err-clause-goes
returns-in-Err-clause-goes g c =
    let end = rw c.in-Call.is at c.execute_paid-count.ensures.end in
    wanting_is_blocked _ _ _ _ _ _ (c.execute_paid-count.ensures.follows (8 - c.args.depth)) end.0 c.in-Err.ensures.steps.0 c.in-Err.ensures.steps.1

pub returns-in-Budget-clause-writes : goal.returns-in-Budget-clause-writes
returns-in-Budget-clause-writes g c =
    let end = rw c.in-Budget.is at c.execute_paid-count.ensures.end in
    some_quiet _ _ _ _ (omega (arith, end, c.requires.some)) (c.execute_paid-count.ensures.follows (8 - c.args.depth)) (ap console_bytes c.execute_paid-count.ensures.devices)

pub returns-in-Ok-Local-clause-writes : goal.returns-in-Ok-Local-clause-writes
returns-in-Ok-Local-clause-writes g c =
    let answer = rw c.in-Ok-Local.field-0-is at c.in-Ok-Local.ensures.steps in
    one_more_writes _ _ _ _ _ (c.execute_paid-count.ensures.follows (8 - c.args.depth)) c.execute_paid-count.ensures.devices answer

pub returns-in-Trap-clause-writes : goal.returns-in-Trap-clause-writes
returns-in-Trap-clause-writes g c = one_more_writes _ _ _ _ _ (c.execute_paid-count.ensures.follows (8 - c.args.depth)) c.execute_paid-count.ensures.devices (c.trap.ensures.next (8 - c.args.depth))
