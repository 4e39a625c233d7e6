use Rattle.std.proofs.Common.{◌∙◌, ap, false}
use Rattle.clap.specs.Words.{found_of, rows_of}
use Rattle.command_line.specs.Line.{run_by, walk_line}
use Rattle.command_line.proofs.reading.walk_from.Goals as goal

pub returns : goal.returns
unfolding walk_line
returns c = c.run_by.ensures ∙ ap (λ e. run_by false e (rows_of (found_of c.args.matches.now))) c.schedule_from-engine.ensures
