use Rattle.std.proofs.Common.{◌∙◌, ap₂}
use Rattle.clap.specs.Words.{found_of, rows_of}
use Rattle.command_line.specs.Line.{run_by, run_line}
use Rattle.command_line.proofs.reading.run_from.Goals as goal

pub returns : goal.returns
unfolding run_line
returns c = c.run_by.ensures ∙ ap₂ (λ d e. run_by d e (rows_of (found_of c.args.matches.now))) c.flag_from-digest.ensures c.engine_from-engine.ensures
