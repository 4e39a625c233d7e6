-- What a builder's chain makes of a command.
use Rattle.std.proofs.Common.{◌≡◌, ◌∙◌, ◌||◌, ap, ap₂, Bool, false}
use Rattle.clap.specs.Words.{AddsArg, AddsSubcommand, App, Rule, with_rule, with_subcommand}
use Rattle.clap.specs.declared.builder.arg.Arg.{Arg}
use Rattle.clap.specs.declared.builder.command.Command.{Command}
use Rattle.command_line.specs.Line.{IsApp, IsRule}

none_of : (a b : Bool) → a ≡ false → b ≡ false → (a || b) ≡ false
none_of a b x y = ap₂ (λ p q. p || q) x y

pub arg_added : (old new : Command) (a : App) (arg : Arg) (r : Rule) → AddsArg old arg new → IsApp old a
    → IsRule arg r → IsApp new (with_rule a r)
arg_added old new a arg r adds is rule =
    (adds.shape rule.1 ∙ ap₂ with_rule is.0 rule.0, adds.globals ∙ none_of _ _ is.1 rule.1)

pub subcommand_added : (old sub new : Command) (a s : App) → AddsSubcommand old sub new → IsApp old a
    → IsApp sub s → IsApp new (with_subcommand a s.top)
subcommand_added old sub new a s adds is below =
    (adds.shape below.1 ∙ ap₂ with_subcommand is.0 (ap (λ (b : App). b.top) below.0), adds.globals ∙ none_of _ _ is.1 below.1)
