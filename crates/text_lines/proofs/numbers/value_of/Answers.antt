use Rattle.std.proofs.Common.{◌≡◌, ◌^◌, ◌<◌, length, ℕ, List, ◌∙◌, subst, sym, rules}
use Rattle.std.specs.Prelude.{Option}
use Rattle.std.specs.Option.{SomeIff}
use Rattle.std.specs.Str.Parse.{ParsesUnsigned, digits_value}
use Rattle.text_lines.proofs.Digits.{parse_reads, unreadable}
use Rattle.text_lines.proofs.numbers.value_of.Goals as goal

pub returns-in_err-ok : goal.returns-in_err-ok
returns-in_err-ok c = absurd (unreadable c.args.digits.now c.from_utf8.result _ _ c.from_utf8.ensures.cases c.requires (sym c.ok.ensures.value ∙ c.in_err-ok.was))

pub returns : goal.returns
returns c =
    let digits = c.args.digits.now in
    let same : c.in_ok-ok.field-0.now ≡ digits = search rules in
    let read = parse_reads digits c.parse.result (subst (λ (t : List ℕ). ParsesUnsigned 32 10 t c.parse.result) same c.parse.ensures.value.0) c.requires in
    subst (λ (o : Option ℕ). SomeIff o ((0 < length digits) × (digits_value 10 digits < 2 ^ 32)) (digits_value 10 digits)) (sym c.ok-2.ensures.value) read
