-- Where `clap` finds no fault at words, they have a line, or they write no question.
use Rattle.std.proofs.Common.{◌≡◌, ◌⊎◌, ℕ, Bool, true, false, cond, List, [], ◌∷◌, Option, Some, None, refl, sym, ap, subst, ◌∙◌, inl, inr, codes, arith}
use Rattle.std.specs.Prelude.{find, is_some, IsSome, IsNone, option_and_then, option_map}
use Rattle.std.specs.List.{AllByRecursion}
use Rattle.std.specs.Option.{option_map_or}
use Rattle.std.proofs.lemmas.Bool.{ne_eqb}
use Rattle.clap.specs.Kinds.{Kinds}
use Rattle.clap.specs.Walk.{Row, Rule, Text, answers_to, arg_by_id, finished, first_of, is_empty, nothing_held, settled, walk, walk_from}
use Rattle.clap.specs.Simple.{rows_at, App, Shape, argument_words, built, entered, filled, label_of, names_of, subcommand_of, with_index}
use Rattle.clap.specs.Faults.{built_fault, check_fault, entered_fault, fault_of, level_fault, settle_fault, defaults_fault, walk_fault}
use Rattle.command_line.specs.Line.{flag, fuel_of, has_flag}
use Rattle.command_line.proofs.Accepted.{built_shape, fuel_filled, fuel_is_set, fuel_there, help_filled, help_is_help, name_filled, name_is_set, name_there, no_subcommand}
use Rattle.command_line.proofs.Complete.{HasValue, level_complete}
use Rattle.command_line.proofs.Kept.{AreOurs, IsSet, found_is, or_else_none}
use Rattle.explain_words.specs.declared.command.Command as code
use Rattle.explain_words.specs.Line.{Command, IsRefused, Question, at_app, command_line, command_with, line, line_of, line_with, option_rule, program_app, question_named, run_app, trace_app}

-- ---- the commands, built

abbrev json_filled : Rule
json_filled = with_index 1 (filled (flag (codes "json")))

abbrev option_filled : Text → Rule
option_filled id = with_index 1 (filled (option_rule id))

-- what each of them has, and then the rest
abbrev run_built : Text → List Rule → Shape
run_built name rest = built_shape name (fuel_filled ∷ json_filled ∷ option_filled (codes "source") ∷ name_filled 1 (codes "image") ∷ name_filled 2 (codes "script") ∷ rest)

abbrev at_built : Shape
at_built = run_built (codes "at") (option_filled (codes "bytes") ∷ name_filled 3 (codes "moment") ∷ help_filled 4 ∷ [])

abbrev trace_built : Shape
trace_built = run_built (codes "trace") (name_filled 3 (codes "path") ∷ name_filled 4 (codes "from") ∷ name_filled 5 (codes "to") ∷ help_filled 6 ∷ [])

abbrev why_built : Shape
why_built = run_built (codes "why") (help_filled 3 ∷ [])

json_is_set : (c : List Rule) → arg_by_id c (codes "json") ≡ Some json_filled → IsSet c json_filled
json_is_set c found = record { set = inr refl; valued = inr (omega arith); plainly = refl; found = found }

option_is_set : (c : List Rule) (id : Text) → arg_by_id c id ≡ Some (option_filled id) → IsSet c (option_filled id)
option_is_set c id found = record { set = inl refl; valued = inl refl; plainly = refl; found = found }

at_is_ours : AreOurs at_built.rules
at_is_ours = (
  inr (fuel_is_set _ refl),
  (
    inr (json_is_set _ refl),
    (
      inr (option_is_set _ (codes "source") refl),
      (
        inr (name_is_set _ 1 (codes "image") refl),
        (
          inr (name_is_set _ 2 (codes "script") refl),
          (inr (option_is_set _ (codes "bytes") refl), (inr (name_is_set _ 3 (codes "moment") refl), (inl (help_is_help 4), tt))),
        ),
      ),
    ),
  ),
)

trace_is_ours : AreOurs trace_built.rules
trace_is_ours = (
  inr (fuel_is_set _ refl),
  (
    inr (json_is_set _ refl),
    (
      inr (option_is_set _ (codes "source") refl),
      (
        inr (name_is_set _ 1 (codes "image") refl),
        (
          inr (name_is_set _ 2 (codes "script") refl),
          (inr (name_is_set _ 3 (codes "path") refl), (inr (name_is_set _ 4 (codes "from") refl), (inr (name_is_set _ 5 (codes "to") refl), (inl (help_is_help 6), tt)))),
        ),
      ),
    ),
  ),
)

why_is_ours : AreOurs why_built.rules
why_is_ours = (
  inr (fuel_is_set _ refl),
  (
    inr (json_is_set _ refl),
    (
      inr (option_is_set _ (codes "source") refl),
      (
        inr (name_is_set _ 1 (codes "image") refl),
        (
          inr (name_is_set _ 2 (codes "script") refl),
          (inl (help_is_help 3), tt),
        ),
      ),
    ),
  ),
)

-- ---- their rows

-- such rows have a line, or they write no question
abbrev IsDecided : Option (Text × List Row) → Type 0
IsDecided o = IsSome (option_and_then command_line o) ⊎ (option_and_then question_named o ≡ None)

decided_by : (json : Bool) (source : Option Text) (fuel : Option ℕ) (image script : Option Text) (question : Option Question) → IsSome fuel → IsSome image → IsSome script
    → IsSome (command_with json source fuel image script question) ⊎ (question ≡ None)
decided_by json source (Some n) (Some i) (Some s) (Some q) a b c = inl refl
decided_by json source (Some n) (Some i) (Some s) None a b c = inr refl
decided_by json source (Some n) (Some i) None q a b c = absurd cc
decided_by json source (Some n) None s q a b c = absurd cc
decided_by json source None i s q a b c = absurd cc

decided : (p : Text × List Row) → HasValue p.1 fuel_filled → HasValue p.1 (name_filled 1 (codes "image")) → HasValue p.1 (name_filled 2 (codes "script")) → IsDecided (Some p)
unfolding line_with
decided p fuel image script =
    decided_by (has_flag (codes "json") p.1) (first_of (codes "source") p.1) (fuel_of p.1) (first_of (codes "image") p.1) (first_of (codes "script") p.1) (question_named p)
    (fuel_there p.1 fuel) (name_there 1 (codes "image") p.1 image) (name_there 2 (codes "script") p.1 script)

abbrev IsAccepted : Shape → Type 0
IsAccepted s = (words : List Text) → level_fault s [] nothing_held words false [] ≡ [] → IsDecided (Some (rows_at s words))

at_accepted : IsAccepted at_built
at_accepted words e =
    let l = level_complete at_built words at_is_ours e in
    decided (rows_at at_built words) (l.0 (inr (omega arith))) (l.1.1.1.0 (inl refl)) (l.1.1.1.1.0 (inl refl))

trace_accepted : IsAccepted trace_built
trace_accepted words e =
    let l = level_complete trace_built words trace_is_ours e in
    decided (rows_at trace_built words) (l.0 (inr (omega arith))) (l.1.1.1.0 (inl refl)) (l.1.1.1.1.0 (inl refl))

why_accepted : IsAccepted why_built
why_accepted words e =
    let l = level_complete why_built words why_is_ours e in
    decided (rows_at why_built words) (l.0 (inr (omega arith))) (l.1.1.1.0 (inl refl)) (l.1.1.1.1.0 (inl refl))

-- ---- the program

abbrev built_commands : List Shape
built_commands = at_built ∷ trace_built ∷ why_built ∷ []

all_accepted : AllByRecursion IsAccepted built_commands
all_accepted = (at_accepted, (trace_accepted, (why_accepted, tt)))

accepted : (top : Shape) (stop : Option (Text × List Text)) (rows : List Row) → top.subcommand_required ≡ true → entered_fault (record { top = top; subs = built_commands }) stop ≡ []
    → check_fault top rows (is_some (entered (record { top = top; subs = built_commands }) stop)) ≡ [] → IsDecided (entered (record { top = top; subs = built_commands }) stop)
accepted top None rows required below checked = absurd (no_subcommand top rows required checked)
accepted top (Some p) rows required below checked = go (find (λ s. answers_to p.0 (label_of s)) built_commands) refl below checked
  where
    go : (o : Option Shape) → find (λ s. answers_to p.0 (label_of s)) built_commands ≡ o → option_map_or (λ s. level_fault s [] nothing_held p.1 false []) o [] ≡ []
        → check_fault top rows (is_some (option_map (λ s. rows_at s p.1) o)) ≡ [] → IsDecided (option_map (λ s. rows_at s p.1) o)
    go None is f c = absurd (no_subcommand top rows required c)
    go (Some s) is f c = found_is IsAccepted (λ s. answers_to p.0 (label_of s)) built_commands s all_accepted is p.1 f

-- at each app that is the program's, built
built_accepted : (a : App) (words : List Text) → a.subs ≡ built_commands → a.top.subcommand_required ≡ true → built_fault a nothing_held words ≡ []
    → IsDecided (entered a (walk a.top.rules (names_of a) nothing_held words).stopped)
built_accepted a words only required e =
    let names = names_of a in
    let stop = (walk a.top.rules names nothing_held words).stopped in
    let end = (walk a.top.rules names nothing_held words).held in
    let one = or_else_none (walk_fault a.top names (walk_from nothing_held) words) _ e in
    let two = or_else_none (entered_fault a stop) _ one.1 in
    let three = or_else_none (settle_fault a.top.rules a.top.args_override_self end) _ two.1 in
    let four = or_else_none (defaults_fault (settled a.top.rules end).rows a.top.rules) _ three.1 in
    let same : a ≡ record { top = a.top; subs = built_commands } = ap (λ (ss : List Shape). record { top = a.top; subs = ss }) only in
    subst (λ (b : App). IsDecided (entered b stop)) (sym same)
    (accepted a.top stop (finished a.top.rules end) required (subst (λ (b : App). entered_fault b stop ≡ []) same two.0) (subst (λ (b : App). check_fault a.top (finished a.top.rules end) (is_some (entered b stop)) ≡ []) same four.1))

program_subs : (built program_app).subs ≡ built_commands
unfolding program_app run_app at_app trace_app
program_subs = refl

program_required : (built program_app).top.subcommand_required ≡ true
unfolding program_app run_app at_app trace_app
program_required = refl

is_there : (words : List Text) → fault_of program_app words ≡ [] → IsDecided (subcommand_of program_app words)
is_there words e = built_accepted (built program_app) (argument_words program_app words) program_subs program_required e

none_there : (kinds : Kinds) (o : Option (Text × List Row)) → (kinds ≡ [] → IsDecided o) → cond (is_empty kinds) (option_and_then command_line o) None ≡ None
    → ¬ (kinds ≡ []) ⊎ (option_and_then question_named o ≡ None)
none_there [] o there none = elim (there refl) [ inl some ↦ absurd cc | inr unknown ↦ inr unknown ]
none_there (k ∷ ks) o there none = inl (λ e. cc)

-- the words have no line only where they are refused
refused : (words : List Text) → line words ≡ None → IsRefused words
unfolding line
refused words none = none_there (fault_of program_app words) (subcommand_of program_app words) (is_there words) none

-- ---- words that write no question

no_command : (json : Bool) (source : Option Text) (fuel : Option ℕ) (image script : Option Text) → command_with json source fuel image script None ≡ None
no_command json source (Some n) (Some i) (Some s) = refl
no_command json source (Some n) (Some i) None = refl
no_command json source (Some n) None s = refl
no_command json source None i s = refl

no_line : (o : Option (Text × List Row)) → option_and_then question_named o ≡ None → option_and_then command_line o ≡ None
unfolding line_with
no_line None wrong = refl
no_line (Some p) wrong =
    ap (λ (q : Option Question). line_with q p.1) wrong
    ∙ no_command (has_flag (codes "json") p.1) (first_of (codes "source") p.1) (fuel_of p.1) (first_of (codes "image") p.1) (first_of (codes "script") p.1)

text_refuses : (b : Bool) (o : Option Command) → o ≡ None → cond b o None ≡ None
text_refuses true o none = none
text_refuses false o none = refl

kinds_refuse : (kinds : Kinds) (o : Option Command) → ¬ (kinds ≡ []) → cond (is_empty kinds) o None ≡ None
kinds_refuse [] o some = absurd (some refl)
kinds_refuse (k ∷ ks) o some =
    let full : is_empty (k ∷ ks) ≡ false = ne_eqb _ _ (λ z. omega arith) in
    ap (λ b. cond b o None) full

-- and everywhere there
none_at : (words : List Text) → IsRefused words → line words ≡ None
unfolding line
none_at words (inl fault) = kinds_refuse (fault_of program_app words) (option_and_then command_line (subcommand_of program_app words)) fault
none_at words (inr wrong) = text_refuses (is_empty (fault_of program_app words)) (option_and_then command_line (subcommand_of program_app words)) (no_line (subcommand_of program_app words) wrong)

-- a command that is the line's is none exactly there
pub none_where_refused : (words : List Text) (c : Option code.Command) → option_map line_of c ≡ line words → (IsNone c → IsRefused words) × (IsRefused words → IsNone c)
none_where_refused words None e = (λ _. refused words (sym e), λ _. refl)
none_where_refused words (Some c) e = (λ n. absurd cc, λ some. let none = none_at words some in absurd cc)
