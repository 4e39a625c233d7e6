use Rattle.std.proofs.Common.{◌∙◌, ap, true}
use Rattle.std.proofs.lemmas.Result.{IfOk-weaker}
use Rattle.clap.specs.Simple.{app_of_fields, on_top}
use Rattle.command_line.specs.Line.{IsApp}
use Rattle.command_line.proofs.AppLemmas.{subcommand_added}
use Rattle.explain_words.specs.Line.{at_app, program_app, start, trace_app, why_app}
use Rattle.explain_words.proofs.apps.program_command.Goals as goal

pub returns : goal.returns
unfolding program_app
returns c =
    let required = c.subcommand_required.ensures in
    let no_help = c.disable_help_subcommand.ensures in
    let start_is : IsApp c.disable_help_subcommand.result start = (
      ap app_of_fields no_help ∙ ap (λ f. app_of_fields (record f { disable_help_subcommand = true })) required ∙ ap (on_top (λ s. record s { subcommand_required = true; disable_help_subcommand = true })) c.new.ensures.app,
      ap (λ f. f.has_globals) no_help ∙ ap (λ f. f.has_globals) required ∙ c.new.ensures.local,
    ) in
    let one = subcommand_added _ _ _ start at_app c.in_ok-subcommand.ensures start_is c.in_ok-at_command.ensures in
    let two = subcommand_added _ _ _ _ trace_app c.in_ok-subcommand-2.ensures one c.in_ok-trace_command.ensures in
    IfOk-weaker c.subcommand-3.result _ _ (λ r adds. subcommand_added _ _ r _ why_app adds two c.in_ok-why_command.ensures) c.subcommand-3.ensures
