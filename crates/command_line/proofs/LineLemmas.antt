-- What a parse says of the line.
use Rattle.std.proofs.Common.{◌≡◌, ◌⊎◌, ◌∙◌, ap, subst, true, false, refl, sym, inl, inr, List, [], ◌∷◌, Option, Some, None, is_some, arith}
use Rattle.std.proofs.lemmas.Bool.{ne_eqb}
use Rattle.std.specs.Prelude.{Result, Ok, Err, IfOk, MatchResult, option_and_then, option_map, cond}
use Rattle.std.specs.Box.{box_value}
use Rattle.clap.specs.Words.{FailsBy, HasKind, HasMatchesOf, Kinds, Row, Text, app_of, fault_of, is_simple, is_simple_and_free, kind_of, subcommand_name_of, subcommand_rows_of}
use Rattle.clap.specs.Walk.{is_empty}
use Rattle.clap.specs.declared.error.Error.{Error}
use Rattle.clap.specs.declared.error.kind.ErrorKind.TheVariants.{OutOfMemory}
use Rattle.clap.specs.declared.parser.matches.ArgMatches.{ArgMatches}
use Rattle.clap.specs.declared.parser.matches.ArgMatches.TheViews.{out-ArgMatches, out-SubCommand}
use Rattle.clap.specs.declared.parser.matches.SubCommand.{SubCommand}
use Rattle.clap.specs.Matches.{has_subcommand}
use Rattle.clap.specs.Simple.{subcommand_rows}
use Rattle.std.specs.Prelude.{Box}
use Rattle.clap.specs.declared.builder.command.Command.{Command}
use Rattle.clap.proofs.OnLiterals.{clap_on_literals}
use Rattle.command_line.specs.Line.{IsApp, asm_app, bench_app, Line, command_line, program_app, line, run_app, walk_app}

pub is_simple_app : is_simple_and_free program_app ≡ true
unfolding clap_on_literals program_app run_app walk_app asm_app bench_app
is_simple_app = refl

is_simple_program : is_simple program_app ≡ true
unfolding clap_on_literals program_app run_app walk_app asm_app bench_app
is_simple_program = refl

taken : (k : Kinds) (o : Option Line) → k ≡ [] → cond (is_empty k) o None ≡ o
taken k o none = rw none refl

refused : (k : Kinds) (o : Option Line) (e : Error) → HasKind k e → (kind_of e ≡ OutOfMemory) ⊎ (cond (is_empty k) o None ≡ None)
refused [] o e h = elim h [ inl m ↦ inl m | inr none ↦ absurd none ]
refused (k ∷ ks) o e h =
    let some : is_empty (k ∷ ks) ≡ false = ne_eqb _ _ (λ z. omega arith) in
    inr (ap (λ b. cond b o None) some)

-- a parse is the line's, and an error that is not for memory says that there is none
abbrev pub ParsesLine : List Text → Result ArgMatches Error → Type 0
ParsesLine ws r = MatchResult r (λ m. line ws ≡ option_and_then command_line (subcommand_rows_of m))
    (λ e. (kind_of e ≡ OutOfMemory) ⊎ (line ws ≡ None))

pub parses_line : (cmd : Command) (ws : List Text) (r : Result ArgMatches Error) → IsApp cmd program_app
    → (is_simple_and_free (app_of cmd) ≡ true → FailsBy (fault_of (app_of cmd) ws) r)
    → IfOk r (HasMatchesOf (app_of cmd) ws) → ParsesLine ws r
unfolding line
parses_line cmd ws r is kinds matches =
    go r (subst (λ a. FailsBy (fault_of a ws) r) is.0 (kinds (ap is_simple_and_free is.0 ∙ is_simple_app)))
    (subst (λ a. IfOk r (HasMatchesOf a ws)) is.0 matches)
  where
    go : (r : Result ArgMatches Error) → FailsBy (fault_of program_app ws) r → IfOk r (HasMatchesOf program_app ws) → ParsesLine ws r
    go (Ok m) none h = taken (fault_of program_app ws) _ none ∙ ap (option_and_then command_line) (sym (h is_simple_program).1)
    go (Err e) k h = refused (fault_of program_app ws) _ e k

-- ---- the subcommand

no_row : {Z : Type 0} (o : Option (Box SubCommand Z)) → is_some o ≡ false → subcommand_rows o ≡ None
no_row None e = refl
no_row (Some b) e = cc

pub no_rows : (m : ArgMatches) → has_subcommand m ≡ false → subcommand_rows_of m ≡ None
no_rows m none = no_row (out-ArgMatches m).subcommand none

some_row : {Z : Type 0} (o : Option (Box SubCommand Z)) (name : Text) (rows : List Row)
    → Some name ≡ option_map (λ b. (out-SubCommand (box_value b)).name.now) o
    → Some rows ≡ option_map (λ p. p.1) (subcommand_rows o) → Some (name, rows) ≡ subcommand_rows o
some_row None name rows a b = cc
some_row (Some x) name rows a b = cc

pub some_rows : (m : ArgMatches) (name : Text) (rows : List Row) → Some name ≡ subcommand_name_of m
    → Some rows ≡ option_map (λ p. p.1) (subcommand_rows (out-ArgMatches m).subcommand) → Some (name, rows) ≡ subcommand_rows_of m
some_rows m name rows named given = some_row (out-ArgMatches m).subcommand name rows named given
