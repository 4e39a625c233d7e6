use Rattle.explain_why.proofs.planning.line_run.Goals as goal

pub loop-trap-preserved : goal.loop-trap-preserved
loop-trap-preserved c = record { fresh = c.in_ok-want.ensures.fresh c.loop-trap.invariant.fresh; tell = λ root tell. c.in_ok-want.ensures.runs root (c.loop-trap.invariant.tell root tell) }
