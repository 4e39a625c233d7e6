-- Where `clap` finds no fault at words, they have a line, or the name of an engine is none.
use Rattle.std.proofs.Common.{◌≡◌, ◌⊎◌, ◌&&◌, ◌||◌, ℕ, Bool, true, false, cond, not, List, [], ◌∷◌, Option, Some, None, refl, sym, ap, subst, inl, inr, arith, codes}
use Rattle.std.specs.Prelude.{find, is_some, IsSome, IsNone, option_and_then, option_map}
use Rattle.std.specs.List.{AllByRecursion, list_any}
use Rattle.std.specs.Option.{option_map_or}
use Rattle.std.specs.Str.Parse.{digits_value, without_leading_plus}
use Rattle.std.proofs.lemmas.Bool.{ne_eqb}
use Rattle.std.specs.Str.{bytes_eq}
use Rattle.std.proofs.lemmas.Slice.Eq.{bytes_eq-Decides}
use Rattle.clap.specs.Facts.{explicit_source}
use Rattle.clap.specs.Kinds.{Kinds, check_kinds}
use Rattle.clap.specs.ValueTests.{accepts}
use Rattle.clap.specs.Walk.{Row, Rule, Text, answers_to, arg_by_id, finished, first_of, is_empty, nothing_held, one_of, rows_after, settled, walk, walk_from}
use Rattle.clap.specs.Simple.{rows_at, App, Shape, argument_words, built, entered, filled, help_rule, label_of, names_of, new_shape, subcommand_of, with_index}
use Rattle.clap.specs.Takes.{is_given}
use Rattle.clap.specs.Faults.{built_fault, check_fault, entered_fault, fault_of, level_fault, settle_fault, defaults_fault, walk_fault}
use Rattle.clap.specs.declared.builder.value_parser.ValueParser.TheVariants as vp
use Rattle.command_line.specs.declared.command.Command.{Command}
use Rattle.command_line.specs.Line.{Engine, IsRefused, IsUnknown, Line, asm, asm_app, asm_line, bench_app, bench_line, bench_with, command_line, demand, engine_in, engine_name_of, engine_named, engine_rule, engine_with, flag, fuel_of, fuel_rule, greatest_number, has_flag, line, line_of, link_of, link_rule, most_nodes, most_workers, nodes_of, nodes_rule, number_in, number_of, pool, seats, program_app, required_rule, rounds, run_app, run_by, run_line, run_with, schedule, seed_of, seed_rule, walk_app, walk_line, workers_of, workers_rule}
use Rattle.command_line.proofs.Complete.{HasValue, level_complete}
use Rattle.command_line.proofs.Kept.{AreOurs, IsHelp, IsSet, found_is, or_else_none}

-- ---- the commands, built

abbrev engine_filled : Rule
engine_filled = with_index 1 (filled engine_rule)

abbrev workers_filled : Rule
workers_filled = with_index 1 (filled workers_rule)

abbrev nodes_filled : Rule
nodes_filled = with_index 1 (filled nodes_rule)

abbrev link_filled : Rule
link_filled = with_index 1 (filled link_rule)

abbrev pub fuel_filled : Rule
fuel_filled = with_index 1 (filled fuel_rule)

abbrev digest_filled : Rule
digest_filled = with_index 1 (filled (flag (codes "digest")))

-- the n-th of a command's names
abbrev pub name_filled : ℕ → Text → Rule
name_filled n id = with_index n (filled (required_rule id))

abbrev seed_filled : Rule
seed_filled = with_index 1 (filled seed_rule)

abbrev pub help_filled : ℕ → Rule
help_filled n = with_index n (filled help_rule)

abbrev pub built_shape : Text → List Rule → Shape
built_shape name rules = record (new_shape name) { rules = rules; disable_help_subcommand = true; is_built = true }

abbrev run_built : Shape
run_built = built_shape (codes "run") (engine_filled ∷ workers_filled ∷ nodes_filled ∷ link_filled ∷ fuel_filled ∷ digest_filled ∷ name_filled 1 (codes "image") ∷ name_filled 2 (codes "script") ∷ help_filled 3 ∷ [])

abbrev walk_built : Shape
walk_built = built_shape (codes "walk") (fuel_filled ∷ name_filled 1 (codes "image") ∷ name_filled 2 (codes "script") ∷ name_filled 3 (codes "schedule") ∷ help_filled 4 ∷ [])

abbrev asm_built : Shape
asm_built = built_shape (codes "asm") (name_filled 1 (codes "source") ∷ help_filled 2 ∷ [])

abbrev bench_built : Shape
bench_built = built_shape (codes "bench") (engine_filled ∷ workers_filled ∷ nodes_filled ∷ link_filled ∷ seed_filled ∷ help_filled 2 ∷ [])

abbrev built_commands : List Shape
built_commands = run_built ∷ walk_built ∷ asm_built ∷ bench_built ∷ []

-- ---- their arguments

pub name_is_set : (c : List Rule) (n : ℕ) (id : Text) → arg_by_id c id ≡ Some (name_filled n id) → IsSet c (name_filled n id)
name_is_set c n id found = record { set = inl refl; valued = inl refl; plainly = refl; found = found }

pub fuel_is_set : (c : List Rule) → arg_by_id c (codes "limit") ≡ Some fuel_filled → IsSet c fuel_filled
fuel_is_set c found = record { set = inl refl; valued = inl refl; plainly = refl; found = found }

engine_is_set : (c : List Rule) → arg_by_id c (codes "engine") ≡ Some engine_filled → IsSet c engine_filled
engine_is_set c found = record { set = inl refl; valued = inl refl; plainly = refl; found = found }

workers_is_set : (c : List Rule) → arg_by_id c (codes "workers") ≡ Some workers_filled → IsSet c workers_filled
workers_is_set c found = record { set = inl refl; valued = inl refl; plainly = refl; found = found }

nodes_is_set : (c : List Rule) → arg_by_id c (codes "nodes") ≡ Some nodes_filled → IsSet c nodes_filled
nodes_is_set c found = record { set = inl refl; valued = inl refl; plainly = refl; found = found }

link_is_set : (c : List Rule) → arg_by_id c (codes "link") ≡ Some link_filled → IsSet c link_filled
link_is_set c found = record { set = inl refl; valued = inl refl; plainly = refl; found = found }

pub help_is_help : (n : ℕ) → IsHelp (help_filled n)
help_is_help n = record { help = refl; optional = refl; plain = refl }

run_is_ours : AreOurs run_built.rules
run_is_ours =
    let digest : IsSet run_built.rules digest_filled = record { set = inr refl; valued = inr (omega arith); plainly = refl; found = refl } in
    (inr (engine_is_set _ refl), (inr (workers_is_set _ refl), (inr (nodes_is_set _ refl), (inr (link_is_set _ refl), (inr (fuel_is_set _ refl), (inr digest, (inr (name_is_set _ 1 (codes "image") refl), (inr (name_is_set _ 2 (codes "script") refl), (inl (help_is_help 3), tt)))))))))

walk_is_ours : AreOurs walk_built.rules
walk_is_ours =
    (inr (fuel_is_set _ refl), (inr (name_is_set _ 1 (codes "image") refl), (inr (name_is_set _ 2 (codes "script") refl), (inr (name_is_set _ 3 (codes "schedule") refl), (inl (help_is_help 4), tt)))))

asm_is_ours : AreOurs asm_built.rules
asm_is_ours = (inr (name_is_set _ 1 (codes "source") refl), (inl (help_is_help 2), tt))

bench_is_ours : AreOurs bench_built.rules
bench_is_ours =
    let seed : IsSet bench_built.rules seed_filled = record { set = inl refl; valued = inl refl; plainly = refl; found = refl } in
    (inr (engine_is_set _ refl), (inr (workers_is_set _ refl), (inr (nodes_is_set _ refl), (inr (link_is_set _ refl), (inr seed, (inl (help_is_help 2), tt))))))

-- ---- what they have

number_taken : (low high : ℕ) (t : Text) → accepts false (vp.Unsigned low high) t ≡ true → IsSome (number_in low high t)
unfolding number_in
number_taken low high t e = subst (λ (b : Bool). IsSome (cond b (Some (digits_value 10 (without_leading_plus t))) None)) (sym e) refl

number_there : (low high : ℕ) (id : Text) (rows : List Row) (t : Text) → one_of id rows ≡ Some t → accepts false (vp.Unsigned low high) t ≡ true → IsSome (number_of low high id rows)
number_there low high id rows t one taken = subst (λ o. IsSome (option_and_then (number_in low high) o)) (sym one) (number_taken low high t taken)

pub fuel_there : (rows : List Row) → HasValue rows fuel_filled → IsSome (fuel_of rows)
fuel_there rows v = number_there 1 greatest_number (codes "limit") rows v.0 v.1.one v.1.taken

workers_there : (rows : List Row) → HasValue rows workers_filled → IsSome (workers_of rows)
workers_there rows v = number_there 1 most_workers (codes "workers") rows v.0 v.1.one v.1.taken

nodes_there : (rows : List Row) → HasValue rows nodes_filled → IsSome (nodes_of rows)
nodes_there rows v = number_there 1 most_nodes (codes "nodes") rows v.0 v.1.one v.1.taken

seed_there : (rows : List Row) → HasValue rows seed_filled → IsSome (seed_of rows)
seed_there rows v = number_there 0 greatest_number (codes "seed") rows v.0 v.1.one v.1.taken

pub name_there : (n : ℕ) (id : Text) (rows : List Row) → HasValue rows (name_filled n id) → IsSome (first_of id rows)
name_there n id rows v = subst (λ (o : Option Text). IsSome o) (sym v.1.first) refl

run_there : (fuel : Option ℕ) (digest : Bool) (engine : Option Engine) (image script : Option Text) → IsSome fuel → IsSome engine → IsSome image → IsSome script → IsSome (run_with fuel digest engine image script)
run_there (Some n) d (Some e) (Some i) (Some s) a b c f = refl
run_there (Some n) d (Some e) (Some i) None a b c f = absurd cc
run_there (Some n) d (Some e) None s a b c f = absurd cc
run_there (Some n) d None i s a b c f = absurd cc
run_there None d e i s a b c f = absurd cc

bench_there : (engine : Engine) (seed : Option ℕ) → IsSome seed → IsSome (bench_with (Some engine) seed)
bench_there e (Some n) a = refl
bench_there e None a = absurd cc

mapped_there : {A B : Type 0} (f : A → B) (o : Option A) → IsSome o → IsSome (option_map f o)
mapped_there f None h = absurd cc
mapped_there f (Some x) h = refl

-- ---- each command

-- such rows have a line, or the name of an engine in them is none
abbrev IsDecided : Option (Text × List Row) → Type 0
IsDecided o = IsSome (option_and_then command_line o) ⊎ IsUnknown (option_and_then engine_name_of o)

abbrev IsAccepted : Shape → Type 0
IsAccepted s = (words : List Text) → level_fault s [] nothing_held words false [] ≡ [] → IsDecided (Some (rows_at s words))

-- a name that is no engine's with one number of workers and nodes and one seed is none with any
none_named : (a b c d : Bool) (m i n j : ℕ) (k l : Option ℕ) → cond a (Some demand) (cond b (Some rounds) (cond c (Some (pool m i k)) (cond d (Some (seats m i k)) None))) ≡ None
    → cond a (Some demand) (cond b (Some rounds) (cond c (Some (pool n j l)) (cond d (Some (seats n j l)) None))) ≡ None
none_named true b c d m i n j k l e = absurd cc
none_named false true c d m i n j k l e = absurd cc
none_named false false true d m i n j k l e = absurd cc
none_named false false false true m i n j k l e = absurd cc
none_named false false false false m i n j k l e = refl

-- a line with an engine is there, or the name of the engine is none
by_engine : (rows : List Row) (made : Option Engine → Option Line) → HasValue rows engine_filled → IsSome (workers_of rows) → IsSome (nodes_of rows) → ((e : Engine) → IsSome (made (Some e)))
    → IsSome (made (engine_in rows)) ⊎ IsUnknown (first_of (codes "engine") rows)
by_engine rows made v staffed placed there = subst (λ o. IsSome (made (engine_with (workers_of rows) (nodes_of rows) (link_of rows) o)) ⊎ IsUnknown o) (sym v.1.first) (of_numbers (workers_of rows) (nodes_of rows) staffed placed)
  where
    go : (n j : ℕ) (o : Option Engine) → engine_named n j (link_of rows) v.0 ≡ o → IsSome (made (engine_named n j (link_of rows) v.0)) ⊎ IsUnknown (Some v.0)
    go n j None is = inr (λ m i l. none_named (bytes_eq v.0 (codes "demand")) (bytes_eq v.0 (codes "rounds")) (bytes_eq v.0 (codes "pool")) (bytes_eq v.0 (codes "seats")) n j m i (link_of rows) l is)
    go n j (Some e) is = inl (subst (λ (o : Option Engine). IsSome (made o)) (sym is) (there e))

    of_numbers : (w k : Option ℕ) → IsSome w → IsSome k → IsSome (made (engine_with w k (link_of rows) (Some v.0))) ⊎ IsUnknown (Some v.0)
    of_numbers None k some more = absurd cc
    of_numbers (Some n) None some more = absurd cc
    of_numbers (Some n) (Some j) some more = go n j (engine_named n j (link_of rows) v.0) refl

run_accepted : IsAccepted run_built
unfolding run_line run_by
run_accepted words e =
    let rows = rows_after run_built.rules [] words in
    let l = level_complete run_built words run_is_ours e in
    let workers = workers_there rows (l.1.0 (inr (omega arith))) in
    let nodes = nodes_there rows (l.1.1.0 (inr (omega arith))) in
    let fuel = fuel_there rows (l.1.1.1.1.0 (inr (omega arith))) in
    let image = name_there 1 (codes "image") rows (l.1.1.1.1.1.1.0 (inl refl)) in
    let script = name_there 2 (codes "script") rows (l.1.1.1.1.1.1.1.0 (inl refl)) in
    let digest = has_flag (codes "digest") rows in
    by_engine rows (λ o. run_with (fuel_of rows) digest o (first_of (codes "image") rows) (first_of (codes "script") rows)) (l.0 (inr (omega arith))) workers nodes
    (λ x. run_there (fuel_of rows) digest (Some x) (first_of (codes "image") rows) (first_of (codes "script") rows) fuel refl image script)

walk_accepted : IsAccepted walk_built
unfolding walk_line run_by
walk_accepted words e =
    let rows = rows_after walk_built.rules [] words in
    let l = level_complete walk_built words walk_is_ours e in
    inl (run_there (fuel_of rows) false (option_map (λ name. schedule name) (first_of (codes "schedule") rows)) (first_of (codes "image") rows) (first_of (codes "script") rows)
    (fuel_there rows (l.0 (inr (omega arith)))) (mapped_there (λ name. schedule name) (first_of (codes "schedule") rows) (name_there 3 (codes "schedule") rows (l.1.1.1.0 (inl refl))))
    (name_there 1 (codes "image") rows (l.1.0 (inl refl))) (name_there 2 (codes "script") rows (l.1.1.0 (inl refl))))

asm_accepted : IsAccepted asm_built
asm_accepted words e =
    let rows = rows_after asm_built.rules [] words in
    inl (mapped_there asm (first_of (codes "source") rows) (name_there 1 (codes "source") rows ((level_complete asm_built words asm_is_ours e).0 (inl refl))))

bench_accepted : IsAccepted bench_built
bench_accepted words e =
    let rows = rows_after bench_built.rules [] words in
    let l = level_complete bench_built words bench_is_ours e in
    let workers = workers_there rows (l.1.0 (inr (omega arith))) in
    let nodes = nodes_there rows (l.1.1.0 (inr (omega arith))) in
    let seed = seed_there rows (l.1.1.1.1.0 (inl refl)) in
    by_engine rows (λ o. bench_with o (seed_of rows)) (l.0 (inr (omega arith))) workers nodes (λ x. bench_there x (seed_of rows) seed)

all_accepted : AllByRecursion IsAccepted built_commands
all_accepted = (run_accepted, (walk_accepted, (asm_accepted, (bench_accepted, tt))))

-- ---- the program

-- a subcommand is wanted
wanted : (x z : Bool) → check_kinds x true z ≡ [] → ⊥
wanted true z e = absurd cc
wanted false z e = absurd cc

pub no_subcommand : (top : Shape) (rows : List Row) → top.subcommand_required ≡ true → check_fault top rows false ≡ [] → ⊥
no_subcommand top rows required e =
    let x : Bool = top.arg_required_else_help && not (list_any (λ (r : Row). explicit_source r.source) rows) in
    let z : Bool = not (top.subcommand_negates_reqs && false) && list_any (λ (a : Rule). a.required && not (is_given a.id rows)) top.rules in
    wanted x z (subst (λ (b : Bool). check_kinds x b z ≡ []) required e)

accepted : (top : Shape) (stop : Option (Text × List Text)) (rows : List Row) → top.subcommand_required ≡ true → entered_fault (record { top = top; subs = built_commands }) stop ≡ []
    → check_fault top rows (is_some (entered (record { top = top; subs = built_commands }) stop)) ≡ [] → IsDecided (entered (record { top = top; subs = built_commands }) stop)
accepted top None rows required below checked = absurd (no_subcommand top rows required checked)
accepted top (Some p) rows required below checked = go (find (λ s. answers_to p.0 (label_of s)) built_commands) refl below checked
  where
    go : (o : Option Shape) → find (λ s. answers_to p.0 (label_of s)) built_commands ≡ o → option_map_or (λ s. level_fault s [] nothing_held p.1 false []) o [] ≡ []
        → check_fault top rows (is_some (option_map (λ s. rows_at s p.1) o)) ≡ [] → IsDecided (option_map (λ s. rows_at s p.1) o)
    go None is f c = absurd (no_subcommand top rows required c)
    go (Some s) is f c = found_is IsAccepted (λ s. answers_to p.0 (label_of s)) built_commands s all_accepted is p.1 f

-- at each app that is the program's, built
built_accepted : (a : App) (words : List Text) → a.subs ≡ built_commands → a.top.subcommand_required ≡ true → built_fault a nothing_held words ≡ []
    → IsDecided (entered a (walk a.top.rules (names_of a) nothing_held words).stopped)
built_accepted a words only required e =
    let names = names_of a in
    let stop = (walk a.top.rules names nothing_held words).stopped in
    let end = (walk a.top.rules names nothing_held words).held in
    let one = or_else_none (walk_fault a.top names (walk_from nothing_held) words) _ e in
    let two = or_else_none (entered_fault a stop) _ one.1 in
    let three = or_else_none (settle_fault a.top.rules a.top.args_override_self end) _ two.1 in
    let four = or_else_none (defaults_fault (settled a.top.rules end).rows a.top.rules) _ three.1 in
    let same : a ≡ record { top = a.top; subs = built_commands } = ap (λ (ss : List Shape). record { top = a.top; subs = ss }) only in
    subst (λ (b : App). IsDecided (entered b stop)) (sym same)
    (accepted a.top stop (finished a.top.rules end) required (subst (λ (b : App). entered_fault b stop ≡ []) same two.0) (subst (λ (b : App). check_fault a.top (finished a.top.rules end) (is_some (entered b stop)) ≡ []) same four.1))

program_subs : (built program_app).subs ≡ built_commands
unfolding program_app run_app walk_app asm_app bench_app
program_subs = refl

program_required : (built program_app).top.subcommand_required ≡ true
unfolding program_app run_app walk_app asm_app bench_app
program_required = refl

is_there : (words : List Text) → fault_of program_app words ≡ [] → IsDecided (subcommand_of program_app words)
is_there words e = built_accepted (built program_app) (argument_words program_app words) program_subs program_required e

none_there : (kinds : Kinds) (o : Option (Text × List Row)) → (kinds ≡ [] → IsDecided o) → cond (is_empty kinds) (option_and_then command_line o) None ≡ None
    → ¬ (kinds ≡ []) ⊎ IsUnknown (option_and_then engine_name_of o)
none_there [] o there none = elim (there refl) [ inl some ↦ absurd cc | inr unknown ↦ inr unknown ]
none_there (k ∷ ks) o there none = inl (λ e. cc)

-- the words have no line only where they are refused
pub refused : (words : List Text) → line words ≡ None → IsRefused words
unfolding line
refused words none = none_there (fault_of program_app words) (subcommand_of program_app words) (is_there words) none

-- ---- an unknown engine

unknown_engine : (w k l : Option ℕ) (o : Option Text) → IsUnknown o → engine_with w k l o ≡ None
unknown_engine w k l None unknown = absurd unknown
unknown_engine None k l (Some name) unknown = refl
unknown_engine (Some workers) None l (Some name) unknown = refl
unknown_engine (Some workers) (Some nodes) l (Some name) unknown = unknown workers nodes l

run_without : (fuel : Option ℕ) (digest : Bool) (image script : Option Text) → run_with fuel digest None image script ≡ None
run_without None d i s = refl
run_without (Some n) d i s = refl

no_run : (rows : List Row) → IsUnknown (first_of (codes "engine") rows) → run_line rows ≡ None
unfolding run_line run_by
no_run rows unknown =
    let digest = has_flag (codes "digest") rows in
    let image = first_of (codes "image") rows in
    let script = first_of (codes "script") rows in
    subst (λ (o : Option Engine). run_with (fuel_of rows) digest o image script ≡ None) (sym (unknown_engine (workers_of rows) (nodes_of rows) (link_of rows) (first_of (codes "engine") rows) unknown)) (run_without (fuel_of rows) digest image script)

no_bench : (rows : List Row) → IsUnknown (first_of (codes "engine") rows) → bench_line rows ≡ None
no_bench rows unknown = ap (λ (o : Option Engine). bench_with o (seed_of rows)) (unknown_engine (workers_of rows) (nodes_of rows) (link_of rows) (first_of (codes "engine") rows) unknown)

-- `walk` and `asm` are not `bench`
no_line : (r w a b : Bool) (name : Option Text) (one two three four : Option Line) → (w ≡ true → b ≡ false) → (a ≡ true → b ≡ false) → (IsUnknown name → one ≡ None) → (IsUnknown name → four ≡ None)
    → IsUnknown (cond (r || b) name None) → cond r one (cond w two (cond a three (cond b four None))) ≡ None
no_line true w a b name one two three four x y no_run no_bench unknown = no_run unknown
no_line false w a false name one two three four x y no_run no_bench unknown = absurd unknown
no_line false true a true name one two three four x y no_run no_bench unknown = let other = x refl in absurd cc
no_line false false true true name one two three four x y no_run no_bench unknown = let other = y refl in absurd cc
no_line false false false true name one two three four x y no_run no_bench unknown = no_bench unknown

other_name : (name this that : Text) → bytes_eq this that ≡ false → bytes_eq name this ≡ true → bytes_eq name that ≡ false
other_name name this that differ is = subst (λ (n : Text). bytes_eq n that ≡ false) (sym ((bytes_eq-Decides name this).0 is)) differ

no_command : (o : Option (Text × List Row)) → IsUnknown (option_and_then engine_name_of o) → option_and_then command_line o ≡ None
no_command None unknown = absurd unknown
no_command (Some p) unknown =
    no_line (bytes_eq p.0 (codes "run")) (bytes_eq p.0 (codes "walk")) (bytes_eq p.0 (codes "asm")) (bytes_eq p.0 (codes "bench")) (first_of (codes "engine") p.1) (run_line p.1) (walk_line p.1) (asm_line p.1) (bench_line p.1)
    (other_name p.0 (codes "walk") (codes "bench") refl) (other_name p.0 (codes "asm") (codes "bench") refl) (no_run p.1) (no_bench p.1) unknown

fault_refuses : (kinds : Kinds) (o : Option Line) → ¬ (kinds ≡ []) → cond (is_empty kinds) o None ≡ None
fault_refuses [] o some = absurd (some refl)
fault_refuses (k ∷ ks) o some =
    let full : is_empty (k ∷ ks) ≡ false = ne_eqb _ _ (λ z. omega arith) in
    ap (λ b. cond b o None) full

name_refuses : (b : Bool) (o : Option Line) → o ≡ None → cond b o None ≡ None
name_refuses true o none = none
name_refuses false o none = refl

-- and everywhere there
pub none_at : (words : List Text) → IsRefused words → line words ≡ None
unfolding line
none_at words (inl fault) = fault_refuses (fault_of program_app words) (option_and_then command_line (subcommand_of program_app words)) fault
none_at words (inr unknown) = name_refuses (is_empty (fault_of program_app words)) (option_and_then command_line (subcommand_of program_app words)) (no_command (subcommand_of program_app words) unknown)

-- a command that is the line's is none exactly there
pub none_where_refused : (words : List Text) (c : Option Command) → option_map line_of c ≡ line words → (IsNone c → IsRefused words) × (IsRefused words → IsNone c)
none_where_refused words None e = (λ _. refused words (sym e), λ _. refl)
none_where_refused words (Some c) e = (λ n. absurd cc, λ some. let none = none_at words some in absurd cc)
