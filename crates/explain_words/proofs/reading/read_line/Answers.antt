use Rattle.std.proofs.Common.{rules, ◌≡◌, ◌⊎◌, ◌∙◌, sym, map, None, inl, inr}
use Rattle.std.proofs.lemmas.Result.{IfOk-weaker}
use Rattle.std.specs.String.{string_bytes}
use Rattle.std.specs.Prelude.{option_and_then}
use Rattle.clap.specs.Words.{kind_of, subcommand_rows_of}
use Rattle.clap.specs.declared.error.kind.ErrorKind.TheVariants.{OutOfMemory}
use Rattle.explain_words.specs.Line.{command_line, line}
use Rattle.explain_words.proofs.Lines.{ParsesLine, command_in_range, parses_line}
use Rattle.explain_words.proofs.Accepted.{none_where_refused}
use Rattle.explain_words.proofs.reading.read_line.Goals as goal

pub returns-in-Ok-clause-line : goal.returns-in-Ok-clause-line
returns-in-Ok-clause-line c =
    let parsed : ParsesLine (map string_bytes c.args.words.now) c.try_get_matches_from.result = parses_line c.in_ok-command.command _ c.try_get_matches_from.result (search rules) c.try_get_matches_from.ensures.kinds c.try_get_matches_from.ensures.matches in
    let here : line (map string_bytes c.args.words.now) ≡ option_and_then command_line (subcommand_rows_of c.in-Ok.matches) = search rules in
    IfOk-weaker c.command_from.result _ _ (λ o e. e ∙ sym here) c.command_from.ensures

pub returns-in-Ok-clause-refused : goal.returns-in-Ok-clause-refused
returns-in-Ok-clause-refused c = IfOk-weaker c.command_from.result _ _ (λ o e. none_where_refused (map string_bytes c.args.words.now) o e) (returns-in-Ok-clause-line c)

pub returns-in-Ok-clause-range : goal.returns-in-Ok-clause-range
returns-in-Ok-clause-range c = IfOk-weaker c.command_from.result _ _ (λ o e. command_in_range (subcommand_rows_of c.in-Ok.matches) o e) c.command_from.ensures

pub returns-clause-line : goal.returns-clause-line
returns-clause-line c =
    let parsed : ParsesLine (map string_bytes c.args.words.now) c.try_get_matches_from.result = parses_line c.in_ok-command.command _ c.try_get_matches_from.result (search rules) c.try_get_matches_from.ensures.kinds c.try_get_matches_from.ensures.matches in
    let error = c.in-Err.error in
    let either : (kind_of error ≡ OutOfMemory) ⊎ (line (map string_bytes c.args.words.now) ≡ None) = search rules in
    elim either [
      | inl memory ↦
          let is : c.kind.result ≡ OutOfMemory = c.kind.ensures ∙ memory in
          let same = rw is at c.eq.ensures in
          let other = c.if-eq.false in
          cc
      | inr none ↦ sym none
    ]

pub returns-clause-refused : goal.returns-clause-refused
returns-clause-refused c = none_where_refused (map string_bytes c.args.words.now) None (returns-clause-line c)
