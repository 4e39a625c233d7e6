-- What the words of a command line ask for: the command that `clap` gives for them by its definition
-- for simple commands, or none where it refuses them or a name is no engine's.
-- Source: the crate `clap`, whose definition of a command line this cites.
-- Our choice: the commands, their options and ranges.
use Rattle.std.specs.Prelude.{◌≡◌, ◌≤◌, ◌<◌, ◌^◌, ℕ, Bool, true, false, List, [], ◌∷◌, Option, Some, None, codes, if◌then◌else◌, ◌⊎◌}
use Rattle.std.specs.Prelude.{option_and_then, option_map, unwrap_or, ◌||◌}
use Rattle.std.specs.Str.{bytes_eq}
use Rattle.std.specs.Str.Parse.{digits_value, without_leading_plus}
use Rattle.clap.specs.Words.{App, app_of, Row, Rule, Text, first_of, fault_of, new_app, new_rule, one_of, rule_of, subcommand_of, with_rule, with_subcommand}
use Rattle.clap.specs.Simple.{on_top}
use Rattle.clap.specs.Walk.{is_empty}
use Rattle.clap.specs.ValueTests.{accepts}
use Rattle.clap.specs.declared.builder.action.ArgAction.TheVariants.{SetTrue}
use Rattle.clap.specs.declared.builder.value_parser.ValueParser.TheVariants as vp
use Rattle.clap.specs.declared.builder.arg.Arg.{Arg}
use Rattle.clap.specs.declared.builder.command.Command as clap
use Rattle.clap.specs.declared.builder.command.Command.TheViews.{out-Command}
use Rattle.command_line.specs.declared.command.Command.{Command}
use Rattle.command_line.specs.declared.command.Command.TheVariants as command
use Rattle.command_line.specs.declared.command.Run as command_run
use Rattle.command_line.specs.declared.command.Engine as engine
use Rattle.command_line.specs.declared.command.Engine.TheVariants.{Demand, Rounds, Pool, Seats, Schedule}

-- ---- the commands

-- the greatest fuel, and the greatest seed
abbrev pub greatest_number : ℕ
greatest_number = 4294967295

-- the most workers that a pool may have
abbrev pub most_workers : ℕ
most_workers = 64

-- the most nodes that a pool may have
abbrev pub most_nodes : ℕ
most_nodes = 64

-- `--id`, a number in a range, with a default
abbrev pub number : Text → ℕ → ℕ → Text → Rule
number id low high value = record (new_rule id) { long = Some id; defaults = value ∷ []; parser = Some (vp.Unsigned low high) }

-- `--id`, which is there or not
abbrev pub flag : Text → Rule
flag id = record (new_rule id) { long = Some id; action = Some SetTrue }

-- a word that has to be there
abbrev pub required_rule : Text → Rule
required_rule id = record (new_rule id) { required = true }

-- a number in a range that has to be there
abbrev pub required_number : Text → ℕ → ℕ → Rule
required_number id low high = record (required_rule id) { parser = Some (vp.Unsigned low high) }

abbrev pub with_rules : App → List Rule → App
with_rules a [] = a
with_rules a (r ∷ rs) = with_rules (with_rule a r) rs

-- the fuel: how many events a space may take
abbrev pub fuel_rule : Rule
fuel_rule = number (codes "limit") 1 greatest_number (codes "1000000")

-- `--engine`, which to `clap` is any text
abbrev pub engine_rule : Rule
engine_rule = record (new_rule (codes "engine")) { long = Some (codes "engine"); defaults = codes "demand" ∷ [] }

-- `--workers`, which only the engines of the pool and of seats use
abbrev pub workers_rule : Rule
workers_rule = number (codes "workers") 1 most_workers (codes "4")

-- `--nodes`, which only the engines of the pool and of seats use
abbrev pub nodes_rule : Rule
nodes_rule = number (codes "nodes") 1 most_nodes (codes "1")

-- `--link`, a seed, which only the engines of the pool and of seats use, and which may be left out
abbrev pub link_rule : Rule
link_rule = record (new_rule (codes "link")) { long = Some (codes "link"); parser = Some (vp.Unsigned 0 greatest_number) }

-- the number from which a large image is made
abbrev pub seed_rule : Rule
seed_rule = required_number (codes "seed") 0 greatest_number

unfoldable pub run_app : App
run_app = with_rules (new_app (codes "run")) (engine_rule ∷ workers_rule ∷ nodes_rule ∷ link_rule ∷ fuel_rule ∷ flag (codes "digest") ∷ required_rule (codes "image") ∷ required_rule (codes "script") ∷ [])

unfoldable pub walk_app : App
walk_app = with_rules (new_app (codes "walk")) (fuel_rule ∷ required_rule (codes "image") ∷ required_rule (codes "script") ∷ required_rule (codes "schedule") ∷ [])

unfoldable pub asm_app : App
asm_app = with_rules (new_app (codes "asm")) (required_rule (codes "source") ∷ [])

unfoldable pub bench_app : App
bench_app = with_rules (new_app (codes "bench")) (engine_rule ∷ workers_rule ∷ nodes_rule ∷ link_rule ∷ seed_rule ∷ [])

-- a command has to follow the program's name, and none of them is called `help`
abbrev pub start : App
start = on_top (λ s. record s { subcommand_required = true; disable_help_subcommand = true }) (new_app (codes "det"))

unfoldable pub program_app : App
program_app = with_subcommand (with_subcommand (with_subcommand (with_subcommand start run_app.top) walk_app.top) asm_app.top) bench_app.top

-- an argument and a command that are read as these
abbrev pub IsRule : Arg → Rule → Type 0
IsRule a r = (rule_of a ≡ r) × (a.global ≡ false)

abbrev pub IsApp : clap.Command → App → Type 0
IsApp c a = (app_of c ≡ a) × ((out-Command c).has_globals ≡ false)

-- ---- the line

-- In which order events happen: each space runs when its parent waits for it; or all spaces that can go on run side by side, round by round; or
-- so many workers take whichever space can go on, as they come, over so many nodes, between which links lose, repeat and reorder, as a seed decides, or do not, in a pool or by turns in the order of tickets; or first the events of a schedule happen, by its file name.
pub data Engine : Type 0 where
  demand : Engine
  rounds : Engine
  pool : ℕ → ℕ → Option ℕ → Engine
  seats : ℕ → ℕ → Option ℕ → Engine
  schedule : Text → Engine

-- a run: its fuel, whether digests are asked for, its engine, and the file names of an image and a script
pub record Run : Type 0 where
  pub fuel : ℕ
  pub digest : Bool
  pub engine : Engine
  pub image : Text
  pub script : Text

-- `run` and `walk`; `asm` with a source's file name; `bench` with its engine and its seed
pub data Line : Type 0 where
  run : Run → Line
  asm : Text → Line
  bench : Engine → ℕ → Line

-- the names of the files, in the order of the words
abbrev pub files_of_engine : Engine → List Text
files_of_engine demand = []
files_of_engine rounds = []
files_of_engine (pool workers nodes link) = []
files_of_engine (seats workers nodes link) = []
files_of_engine (schedule name) = name ∷ []

abbrev pub files_of : Line → List Text
files_of (run r) = r.image ∷ r.script ∷ files_of_engine r.engine
files_of (asm source) = source ∷ []
files_of (bench engine seed) = files_of_engine engine

-- a pool, and a board of seats, has from 1 to 64 workers, and from 1 to 64 nodes
abbrev pub IsStaffed : Engine → Type 0
IsStaffed demand = Unit {0}
IsStaffed rounds = Unit {0}
IsStaffed (pool workers nodes link) = (1 ≤ workers) × (workers ≤ most_workers) × (1 ≤ nodes) × (nodes ≤ most_nodes)
IsStaffed (seats workers nodes link) = (1 ≤ workers) × (workers ≤ most_workers) × (1 ≤ nodes) × (nodes ≤ most_nodes)
IsStaffed (schedule name) = Unit {0}

-- numbers are in their ranges
abbrev pub IsInRange : Line → Type 0
IsInRange (run r) = (1 ≤ r.fuel) × (r.fuel < 2 ^ 32) × IsStaffed r.engine
IsInRange (asm source) = Unit {0}
IsInRange (bench engine seed) = (seed < 2 ^ 32) × IsStaffed engine

-- the number of a text that such an argument takes
unfoldable pub number_in : ℕ → ℕ → Text → Option ℕ
number_in low high text = if accepts false (vp.Unsigned low high) text
    then Some (digits_value 10 (without_leading_plus text)) else None

abbrev pub number_of : ℕ → ℕ → Text → List Row → Option ℕ
number_of low high id rows = option_and_then (number_in low high) (one_of id rows)

-- a flag was there
abbrev pub has_flag : Text → List Row → Bool
has_flag id rows = unwrap_or (option_map (λ text. bytes_eq text (codes "true")) (one_of id rows)) false

abbrev pub fuel_of : List Row → Option ℕ
fuel_of = number_of 1 greatest_number (codes "limit")

abbrev pub seed_of : List Row → Option ℕ
seed_of = number_of 0 greatest_number (codes "seed")

abbrev pub workers_of : List Row → Option ℕ
workers_of = number_of 1 most_workers (codes "workers")

abbrev pub nodes_of : List Row → Option ℕ
nodes_of = number_of 1 most_nodes (codes "nodes")

-- the seed of the links, where one is given
abbrev pub link_of : List Row → Option ℕ
link_of = number_of 0 greatest_number (codes "link")

-- the engine of a name, with so many workers and nodes, and such links, if it has any
abbrev pub engine_named : ℕ → ℕ → Option ℕ → Text → Option Engine
engine_named workers nodes link name = if bytes_eq name (codes "demand") then Some demand
    else if bytes_eq name (codes "rounds") then Some rounds
    else if bytes_eq name (codes "pool") then Some (pool workers nodes link)
    else if bytes_eq name (codes "seats") then Some (seats workers nodes link)
    else None

-- the engine of a name and two numbers, where all are there, and of a seed, which may be left out
abbrev pub engine_with : Option ℕ → Option ℕ → Option ℕ → Option Text → Option Engine
engine_with (Some workers) (Some nodes) link (Some name) = engine_named workers nodes link name
engine_with _ _ _ _ = None

abbrev pub engine_in : List Row → Option Engine
engine_in rows = engine_with (workers_of rows) (nodes_of rows) (link_of rows) (first_of (codes "engine") rows)

-- the parts of a run, where all are there
abbrev pub run_with : Option ℕ → Bool → Option Engine → Option Text → Option Text → Option Line
run_with (Some fuel) digest (Some engine) (Some image) (Some script) = Some (run (record { fuel = fuel; digest = digest; engine = engine; image = image; script = script }))
run_with _ _ _ _ _ = None

-- the run of such rows, with digests or without, by an engine
unfoldable pub run_by : Bool → Option Engine → List Row → Option Line
run_by digest engine rows = run_with (fuel_of rows) digest engine (first_of (codes "image") rows) (first_of (codes "script") rows)

unfoldable pub run_line : List Row → Option Line
run_line rows = run_by (has_flag (codes "digest") rows) (engine_in rows) rows

unfoldable pub walk_line : List Row → Option Line
walk_line rows = run_by false (option_map (λ name. schedule name) (first_of (codes "schedule") rows)) rows

abbrev pub asm_line : List Row → Option Line
asm_line rows = option_map asm (first_of (codes "source") rows)

-- an engine and a seed, where both are there
abbrev pub bench_with : Option Engine → Option ℕ → Option Line
bench_with (Some engine) (Some seed) = Some (bench engine seed)
bench_with _ _ = None

abbrev pub bench_line : List Row → Option Line
bench_line rows = bench_with (engine_in rows) (seed_of rows)

abbrev pub command_line : Text × List Row → Option Line
command_line p = if bytes_eq p.0 (codes "run") then run_line p.1
    else if bytes_eq p.0 (codes "walk") then walk_line p.1
    else if bytes_eq p.0 (codes "asm") then asm_line p.1
    else if bytes_eq p.0 (codes "bench") then bench_line p.1
    else None

-- The first of the words is the program's name.
unfoldable pub line : List Text → Option Line
line words = if is_empty (fault_of program_app words)
    then option_and_then command_line (subcommand_of program_app words) else None

-- the name that is given to `--engine`, which `run` and `bench` have
abbrev pub engine_name_of : Text × List Row → Option Text
engine_name_of p = if bytes_eq p.0 (codes "run") || bytes_eq p.0 (codes "bench") then first_of (codes "engine") p.1 else None

-- and it is no engine's, whatever the numbers of workers and nodes, and the seed
abbrev pub IsUnknown : Option Text → Type 0
IsUnknown None = ⊥
IsUnknown (Some name) = (workers nodes : ℕ) (link : Option ℕ) → engine_named workers nodes link name ≡ None

-- the words are refused: `clap` has a kind of error for them, or the name that is given to `--engine`, which to `clap` is any text, is no engine's
abbrev pub IsRefused : List Text → Type 0
IsRefused words = ¬ (fault_of program_app words ≡ []) ⊎ IsUnknown (option_and_then engine_name_of (subcommand_of program_app words))

-- the line that a command stands for
abbrev pub engine_of : engine.Engine → Engine
engine_of Demand = demand
engine_of Rounds = rounds
engine_of (Pool workers nodes link) = pool workers nodes link
engine_of (Seats workers nodes link) = seats workers nodes link
engine_of (Schedule name) = schedule name.now

abbrev pub run_of : command_run.Run → Run
run_of r = record { fuel = r.fuel; digest = r.digest; engine = engine_of r.engine; image = r.image.now; script = r.script.now }

abbrev pub line_of : Command → Line
line_of (command.Run r) = run (run_of r)
line_of (command.Asm source) = asm source.now
line_of (command.Bench e seed) = bench (engine_of e) seed
