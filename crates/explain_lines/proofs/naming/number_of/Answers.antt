use Rattle.std.proofs.Common.{◌≡◌, ◌∙◌, List, ℕ, subst, sym, rules}
use Rattle.std.specs.Str.Parse.{ParsesUnsigned}
use Rattle.explain_lines.proofs.Numbers.{reads, unreadable}
use Rattle.explain_lines.proofs.naming.number_of.Goals as goal

pub returns-in_err-ok : goal.returns-in_err-ok
returns-in_err-ok c = absurd (unreadable c.args.digits.now c.from_utf8.result _ _ c.from_utf8.ensures.cases c.requires.digits (sym c.ok.ensures.value ∙ c.in_err-ok.was))

pub returns : goal.returns
returns c =
    let digits = c.args.digits.now in
    let same : c.in_ok-ok.field-0.now ≡ digits = search rules in
    c.ok-2.ensures.value ∙ reads digits c.from_str_radix.result (subst (λ (t : List ℕ). ParsesUnsigned 32 16 t c.from_str_radix.result) same c.from_str_radix.ensures.value) c.requires.digits c.requires.eight
