use Rattle.std.proofs.Common.{inl, inr, Some, sym, ap, ◌∙◌}
use Rattle.explain_cli.specs.About.{text_for}
use Rattle.explain_cli.proofs.Words.{no_text}
use Rattle.explain_cli.proofs.about.text_for.Goals as goal

pub returns-in-text : goal.returns-in-text
unfolding text_for
returns-in-text c = elim c.in-text.is [
  | inl is ↦ ap (λ t. Some t) c.help.ensures ∙ sym (ap text_for is)
  | inr is ↦ ap (λ t. Some t) c.help.ensures ∙ sym (ap text_for is)
]

pub returns-in-text-2 : goal.returns-in-text-2
unfolding text_for
returns-in-text-2 c = sym (ap text_for c.in-text-2.is)

pub returns-in_default : goal.returns-in_default
returns-in_default c = no_text _ c.in_default.not-text c.in_default.not-text-2 c.in_default.not-text-3
