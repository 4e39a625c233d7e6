use Rattle.std.proofs.Common.{Err, ap, subst}
use Rattle.det_host.specs.Writing.{output_of}
use Rattle.det_cli.specs.Ending.{Ends}
use Rattle.det_cli.proofs.Shown.{console_stopped, console_written, cut_short, not_begun}
use Rattle.det_cli.proofs.showing.settle_then_write.Goals as goal

pub returns-in_default-clause-shows : goal.returns-in_default-clause-shows
returns-in_default-clause-shows g c = not_begun (g.O.Sink.taken c.args.out.now) (g.O.Sink.faults c.args.out.now) (g.O.Sink.faults c.args.out.now) c.args.booted.root

pub returns-in-Ok-write_console-clause-shows : goal.returns-in-Ok-write_console-clause-shows
returns-in-Ok-write_console-clause-shows g c =
    let ends = subst (Ends c.args.booted.root) c.in-Ok.is ((c.requires.settles c.args.booted c.requires.sound).1 c.settle.result c.settle.ensures) in
    console_written (output_of g.O.Sink.taken g.O.Sink.faults c.args.out.now c.write_console.new.out) c.args.booted.root c.in-Ok.space ends.0 ends.1 c.in-Ok-write_console.ensures.ok

pub returns-in-Err-clause-shows : goal.returns-in-Err-clause-shows
returns-in-Err-clause-shows g c =
    let ends = subst (Ends c.args.booted.root) c.in-Ok.is ((c.requires.settles c.args.booted c.requires.sound).1 c.settle.result c.settle.ensures) in
    console_stopped _ c.args.booted.root c.in-Ok.space _ ends.0
    (cut_short _ _ c.in-Err.error _ c.write_end.ensures.failed c.write_end.ensures.memory (λ e. c.in-Err.ensures.failed (ap Err e)) c.in-Err.ensures.prefix)
