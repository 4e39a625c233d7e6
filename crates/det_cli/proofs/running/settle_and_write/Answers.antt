use Rattle.std.proofs.Common.{refl}
use Rattle.det_host.specs.Writing.{output_of}
use Rattle.det_cli.proofs.Shown.{not_shown, shown}
use Rattle.det_cli.proofs.running.settle_and_write.Goals as goal

pub returns-in-Ok-show_console-clause-writes : goal.returns-in-Ok-show_console-clause-writes
returns-in-Ok-show_console-clause-writes g c =
    shown c.args.run.now.digest c.in-Ok.root _ c.in-Ok-show_console.space (output_of g.O.Sink.taken g.O.Sink.faults c.args.out.now c.show_console.new.out)
    (output_of g.E.Sink.taken g.E.Sink.faults c.args.err.now c.write_report.new.err) c.write_report.result c.in-Ok.ensures.value c.in-Ok-show_console.ensures.shows c.write_report.ensures.shows

pub returns-in-Err-clause-writes : goal.returns-in-Err-clause-writes
returns-in-Err-clause-writes g c =
    not_shown c.args.run.now.digest c.in-Ok.root _ (output_of g.O.Sink.taken g.O.Sink.faults c.args.out.now c.show_console.new.out)
    (output_of g.E.Sink.taken g.E.Sink.faults c.args.err.now c.args.err.now) c.in-Err.end c.in-Ok.ensures.value c.in-Err.ensures.shows (refl, refl)
