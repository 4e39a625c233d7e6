use Rattle.explain_why.proofs.planning.with_lines.Goals as goal

pub returns-in-Ok-clause-runs : goal.returns-in-Ok-clause-runs
returns-in-Ok-clause-runs c = (c.in-Ok.ensures.runs c.args.root.now c.requires.runs, c.in-Ok.ensures.lines)
