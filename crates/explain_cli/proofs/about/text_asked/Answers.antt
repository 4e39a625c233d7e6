use Rattle.std.proofs.Common.{option_map, string_bytes, ap, ◌∙◌}
use Rattle.explain_cli.specs.About.{text_for}
use Rattle.explain_cli.proofs.Words.{last_asked, none_asked}
use Rattle.explain_cli.proofs.about.text_asked.Goals as goal

pub returns-in_err-rest : goal.returns-in_err-rest
returns-in_err-rest c = ap (option_map (λ s. s.now)) c.from_residual.ensures ∙ none_asked string_bytes _ c.in_err-rest.ensures.cases

pub returns-in_err-last : goal.returns-in_err-last
returns-in_err-last c = ap (option_map (λ s. s.now)) c.from_residual-in_err-last.ensures ∙ last_asked string_bytes _ _ _ _ c.in_ok-rest.ensures.cases.0 c.in_err-last.ensures.value

pub returns : goal.returns
returns c = c.text_for.ensures ∙ ap text_for c.deref.ensures ∙ last_asked string_bytes _ _ _ _ c.in_ok-rest.ensures.cases.0 c.in_ok-last.ensures.value
