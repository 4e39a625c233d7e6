use Rattle.std.proofs.Common.{inl, refl, subst}
use Rattle.image_symbols.specs.Files.{Tells}
use Rattle.explain_cli.proofs.Sources.{refused_with, taken}
use Rattle.explain_cli.proofs.names.read_names.Goals as goal

pub returns-in-Ok-clause-judged : goal.returns-in-Ok-clause-judged
returns-in-Ok-clause-judged c = taken c.args.bytes.now (λ e h. let no = c.in-Ok.ensures.rest e h in cc)

pub returns-in-Err-Bad-clause-judged : goal.returns-in-Err-Bad-clause-judged
returns-in-Err-Bad-clause-judged c =
    inl (refused_with c.args.bytes.now c.in-Err-Bad.e (subst (λ f. Tells f c.args.bytes.now) c.in-Err-Bad.field-0-is c.in-Err-Bad.ensures.fault), refl)
