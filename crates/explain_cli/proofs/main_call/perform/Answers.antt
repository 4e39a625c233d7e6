use Rattle.std.proofs.Common.{option_map, refl, sym, ap, ◌∙◌}
use Rattle.explain_cli.proofs.Promises.{asked_begun, unasked_begun}
use Rattle.explain_cli.proofs.main_call.perform.Goals as goal

pub returns-in-Some-clause-begun : goal.returns-in-Some-clause-begun
returns-in-Some-clause-begun g c =
    asked_begun _ _ _ _ _ _ _ (sym c.text_asked.ensures ∙ ap (option_map (λ s. s.now)) c.in-Some.is) c.as_bytes.ensures.value (refl, refl) c.write_text.ensures.written

pub returns-in-None-clause-begun : goal.returns-in-None-clause-begun
returns-in-None-clause-begun g c =
    unasked_begun _ _ _ _ _ (sym c.text_asked.ensures ∙ ap (option_map (λ s. s.now)) c.in-None.is) c.begin.ensures.begun
