use Rattle.std.proofs.Common.{rules, ◌≡◌, ◌∙◌, ap, sym, Some, option_and_then}
use Rattle.clap.specs.Words.{found_of, rows_of, subcommand_rows_of}
use Rattle.explain_words.specs.Line.{command_line, line_with}
use Rattle.explain_words.proofs.reading.command_from.Goals as goal

pub returns : goal.returns
returns c =
    let rows = rows_of (found_of c.in-Some.inner.now) in
    let here : subcommand_rows_of c.args.matches.now ≡ Some (c.in-Some.name.now, rows) = search rules in
    c.command_about.ensures ∙ ap (λ q. line_with q rows) c.in_ok-question.ensures ∙ ap (option_and_then command_line) (sym here)
