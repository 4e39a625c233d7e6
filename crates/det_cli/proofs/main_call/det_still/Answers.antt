use Rattle.std.proofs.Common.{◌≡◌, Option, Some, None, IsNone, option_map, inl, refl, sym, ap, ◌∙◌, arith}
use Rattle.command_line.specs.Line.{line_of}
use Rattle.det_cli.proofs.Promises.{command_answers, no_answers, unread_answers}
use Rattle.det_cli.proofs.main_call.det_still.Goals as goal

is_some : {A : Type 0} (o : Option A) (a : A) → o ≡ Some a → IsNone o → ⊥
is_some None a e h = cc
is_some (Some b) a e h = cc

is_none : {A : Type 0} (o : Option A) → o ≡ None → IsNone o
is_none None e = refl
is_none (Some a) e = cc

pub returns-in-Some : goal.returns-in-Some
returns-in-Some g c =
    command_answers _ _ _ _ _ _ (sym (ap (option_map line_of) (sym c.in-Some.is) ∙ c.in-Ok.ensures.line))
    (λ r. is_some _ _ c.in-Some.is (c.in-Ok.ensures.refused.1 r))
    c.carry_out.ensures.course (c.carry_out.ensures.files_later, c.carry_out.ensures.out_later, c.carry_out.ensures.err_later)

pub returns-in_default : goal.returns-in_default
returns-in_default g c = unread_answers _ _ _ _ (refl, refl) (refl, refl) (refl, refl) (omega arith, omega arith, omega arith)

pub returns-in-None : goal.returns-in-None
returns-in-None g c =
    no_answers _ _ _ _ _ (sym c.in-Ok.ensures.line ∙ ap (option_map line_of) c.in-None.is) (c.in-Ok.ensures.refused.0 (is_none _ c.in-None.is))
    (inl refl, (refl, refl), (refl, refl), (refl, refl)) (omega arith, omega arith, omega arith)
