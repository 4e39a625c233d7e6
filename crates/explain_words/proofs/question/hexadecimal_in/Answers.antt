use Rattle.std.proofs.Common.{◌∙◌, sym}
use Rattle.explain_words.proofs.Hexadecimal.{hexadecimal_parses, none_of_others}
use Rattle.explain_words.proofs.question.hexadecimal_in.Goals as goal

pub returns-then-is_hexadecimal : goal.returns-then-is_hexadecimal
returns-then-is_hexadecimal c =
    c.ok.ensures.value ∙ hexadecimal_parses c.args.digits.now c.from_str_radix.result (sym c.is_hexadecimal.ensures ∙ c.if-is_hexadecimal.true) c.from_str_radix.ensures.value

pub returns-else-is_hexadecimal : goal.returns-else-is_hexadecimal
returns-else-is_hexadecimal c = none_of_others c.args.digits.now (sym c.is_hexadecimal.ensures ∙ c.if-is_hexadecimal.false)
