use Rattle.std.proofs.Common.{◌∙◌, option_map}
use Rattle.explain_words.specs.Line.{command_with, line_with, question_of}
use Rattle.explain_words.proofs.reading.command_about.Goals as goal

pub returns : goal.returns
unfolding line_with
returns c =
    c.command_with.ensures
    ∙ (λ i. command_with (c.flag_from-json.ensures i) (c.text_from-source.ensures i) (c.fuel_from-fuel.ensures i) (c.text_from-image.ensures i) (c.text_from-script.ensures i) (option_map question_of c.args.question))
