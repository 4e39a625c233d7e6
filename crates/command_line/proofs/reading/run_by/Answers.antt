use Rattle.std.proofs.Common.{◌∙◌, option_map}
use Rattle.command_line.specs.Line.{engine_of, run_by, run_with}
use Rattle.command_line.proofs.reading.run_by.Goals as goal

pub returns : goal.returns
unfolding run_by
returns c = c.run_with.ensures ∙ (λ i. run_with (c.fuel_from-fuel.ensures i) c.args.digest (option_map engine_of c.args.engine) (c.text_from-image.ensures i) (c.text_from-script.ensures i))
