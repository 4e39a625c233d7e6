use Rattle.std.proofs.Common.{◌∙◌, ap, true}
use Rattle.clap.specs.Simple.{app_of_fields, on_top}
use Rattle.command_line.specs.Line.{IsApp, asm_app, bench_app, program_app, run_app, start, walk_app}
use Rattle.command_line.proofs.apps.program_command.Goals as goal

pub returns : goal.returns
unfolding program_app
returns c =
    let required = c.subcommand_required.ensures in
    let no_help = c.disable_help_subcommand-det.ensures in
    let start_is : IsApp c.disable_help_subcommand-det.result start = (
      ap app_of_fields no_help ∙ ap (λ f. app_of_fields (record f { disable_help_subcommand = true })) required ∙ ap (on_top (λ s. record s { subcommand_required = true; disable_help_subcommand = true })) c.new.ensures.app,
      ap (λ f. f.has_globals) no_help ∙ ap (λ f. f.has_globals) required ∙ c.new.ensures.local,
    ) in
    let one = c.in_ok-det.ensures start run_app start_is c.run_command.ensures in
    let two = c.in_ok-det-2.ensures _ walk_app one c.walk_command.ensures in
    let three = c.in_ok-det-3.ensures _ asm_app two c.asm_command.ensures in
    c.with_command-4.ensures _ bench_app three c.bench_command.ensures
