use Rattle.std.proofs.Common.{◌≡◌, Option, Some, None, IsNone, option_map, refl, sym, ap, ◌∙◌}
use Rattle.explain_words.specs.Line.{line_of}
use Rattle.explain_cli.proofs.Promises.{command_begun, no_begun, unread_begun}
use Rattle.explain_cli.proofs.main_call.begin.Goals as goal

is_some : {A : Type 0} (o : Option A) (a : A) → o ≡ Some a → IsNone o → ⊥
is_some None a e h = cc
is_some (Some b) a e h = cc

is_none : {A : Type 0} (o : Option A) → o ≡ None → IsNone o
is_none None e = refl
is_none (Some a) e = cc

pub returns-in-Some-clause-begun : goal.returns-in-Some-clause-begun
returns-in-Some-clause-begun g c =
    command_begun _ _ _ _ _ (sym (ap (option_map line_of) (sym c.in-Some.is) ∙ c.in-Ok.ensures.line)) (λ r. is_some _ _ c.in-Some.is (c.in-Ok.ensures.refused.1 r)) c.carry_out.ensures.course

pub returns-in_default-clause-begun : goal.returns-in_default-clause-begun
returns-in_default-clause-begun g c = unread_begun _ _ _ (refl, refl) (refl, refl)

pub returns-in-None-clause-begun : goal.returns-in-None-clause-begun
returns-in-None-clause-begun g c =
    no_begun _ _ _ (sym c.in-Ok.ensures.line ∙ ap (option_map line_of) c.in-None.is) (c.in-Ok.ensures.refused.0 (is_none _ c.in-None.is)) (refl, refl) (refl, refl)
