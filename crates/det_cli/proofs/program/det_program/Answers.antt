use Rattle.det_cli.proofs.Promises.{program}
use Rattle.det_cli.proofs.program.det_program.Goals as goal

pub returns-clause-answers : goal.returns-clause-answers
returns-clause-answers g c =
    program _ _ _ _ (g.E.Sink.taken c.det_main-ended.new.err) (g.E.Sink.faults c.det_main-ended.new.err) c.det_main-ended.result _
    c.det_main-ended.ensures c.say-end.ensures.end c.say-end.ensures.line c.say-end.ensures.later
