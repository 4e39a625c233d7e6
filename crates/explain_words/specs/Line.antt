-- What the words of a command line of `explain` ask for: the command that `clap` gives for them by its definition for simple commands, or none
-- where it refuses them or they write no question.
-- Source: the crate `clap`, whose definition of a command line this cites.
-- Our choice: the commands and their options; how moments, events and bytes are written.
use Rattle.std.specs.Prelude.{◌≡◌, ◌≤◌, ◌<◌, ◌^◌, ℕ, ◌==◌, ◌&&◌, Bool, true, List, [], ◌∷◌, length, drop, take, Option, Some, None, Result, Ok, Err, codes, if◌then◌else◌, ◌⊎◌, nat_lt, nat_le, IfSome}
use Rattle.std.specs.Prelude.{option_and_then, option_map}
use Rattle.std.specs.Char.{is_ascii_hexdigit}
use Rattle.std.specs.Str.{bytes_eq}
use Rattle.std.specs.Str.Parse.{digits_value}
use Rattle.std.specs.List.{after_first, before_first, list_all, position_or_len}
use Rattle.clap.specs.Words.{App, Row, Rule, Text, first_of, fault_of, new_app, new_rule, subcommand_of, with_subcommand}
use Rattle.clap.specs.Simple.{on_top}
use Rattle.clap.specs.Walk.{is_empty}
use Rattle.schedule_model.specs.declared.error.ScheduleError.{ScheduleError}
use Rattle.schedule_model.specs.Reading.{schedule_of}
use Rattle.text_lines.specs.Reading.{number_of}
use Rattle.command_line.specs.Line.{flag, fuel_of, fuel_rule, has_flag, required_rule, with_rules}
use Rattle.explain_words.specs.declared.command.Bytes.{Bytes}
use Rattle.explain_words.specs.declared.command.Command as code
use Rattle.explain_words.specs.declared.command.Moment as code_moment
use Rattle.explain_words.specs.declared.command.Question as code_question
use Rattle.explain_words.specs.declared.command.Question.TheVariants as question

-- ---- a moment, and events

-- a moment of the space at a path: just behind its own event of this number, counted from 1; or its end, where no event is named
pub record Moment : Type 0 where
  pub path : List ℕ
  pub event : Option ℕ

-- the greatest number of an event that can be named, and the most digits of one, zeros at the front among them
abbrev pub greatest_event : ℕ
greatest_event = 4294967295

abbrev pub most_digits : ℕ
most_digits = 10

-- what stands between a path and an event, and between an address and a count
abbrev pub is_colon : ℕ → Bool
is_colon b = b == 58

-- the one path of a schedule
abbrev pub only_path : Result (List (List ℕ)) ScheduleError → Option (List ℕ)
only_path (Ok (p ∷ [])) = Some p
only_path (Ok paths) = None
only_path (Err e) = None

-- a path is written as a schedule of it alone
abbrev pub path_in : Text → Option (List ℕ)
path_in text = only_path (schedule_of text)

abbrev pub from_one : ℕ → Option ℕ
from_one n = if nat_lt 0 n then Some n else None

-- an event is written as its number
abbrev pub event_in : Text → Option ℕ
event_in digits = option_and_then from_one (number_of most_digits greatest_event digits)

-- a path and an event, where both are there
abbrev pub behind_event : Option (List ℕ) → Option ℕ → Option Moment
behind_event (Some path) (Some event) = Some (record { path = path; event = Some event })
behind_event _ _ = None

abbrev pub at_end : Option (List ℕ) → Option Moment
at_end path = option_map (λ p. record { path = p; event = None }) path

-- PATH:EVENT, or PATH alone
unfoldable pub moment_in : Text → Option Moment
moment_in text = if nat_lt (position_or_len is_colon text) (length text)
    then behind_event (path_in (before_first is_colon text)) (event_in (after_first is_colon text))
    else at_end (path_in text)

-- ---- bytes

-- the most bytes that are shown, and the most digits of that number
abbrev pub most_bytes : ℕ
most_bytes = 4194304

abbrev pub most_digits_of_bytes : ℕ
most_digits_of_bytes = 7

-- 1 to 8 hexadecimal digits, in either case
abbrev pub is_hexadecimal : Text → Bool
is_hexadecimal digits = nat_lt 0 (length digits) && nat_le (length digits) 8 && list_all is_ascii_hexdigit digits

unfoldable pub hexadecimal_in : Text → Option ℕ
hexadecimal_in digits = if is_hexadecimal digits then Some (digits_value 16 digits) else None

-- an address is written as its number behind `0x`
unfoldable pub address_in : Text → Option ℕ
address_in text = if bytes_eq (take 2 text) (codes "0x") then hexadecimal_in (drop 2 text) else None

-- how many bytes
abbrev pub count_in : Text → Option ℕ
count_in digits = option_and_then from_one (number_of most_digits_of_bytes most_bytes digits)

-- an address and a count, where both are there
abbrev pub bytes_with : Option ℕ → Option ℕ → Option Bytes
bytes_with (Some address) (Some count) = Some (record { address = address; count = count })
bytes_with _ _ = None

-- ADDRESS:COUNT
unfoldable pub bytes_in : Text → Option Bytes
bytes_in text = if nat_lt (position_or_len is_colon text) (length text)
    then bytes_with (address_in (before_first is_colon text)) (count_in (after_first is_colon text))
    else None

-- the bytes that are asked for, be there none; a text has to write some
abbrev pub bytes_of : Option Text → Option (Option Bytes)
bytes_of None = Some None
bytes_of (Some text) = option_map (λ b. Some b) (bytes_in text)

-- ---- a question

-- a space at a moment, with bytes of its memory or without; its own events from one to another; or why spaces stopped as they did
pub data Question : Type 0 where
  at_moment : Moment → Option Bytes → Question
  trace_of : List ℕ → ℕ → ℕ → Question
  why : Question

abbrev pub at_with : Option Moment → Option (Option Bytes) → Option Question
at_with (Some moment) (Some bytes) = Some (at_moment moment bytes)
at_with _ _ = None

abbrev pub trace_with : Option (List ℕ) → Option ℕ → Option ℕ → Option Question
trace_with (Some path) (Some from) (Some to) = Some (trace_of path from to)
trace_with _ _ _ = None

-- PATH:EVENT or PATH, with ADDRESS:COUNT or without
abbrev pub at_in : Option Text → Option Text → Option Question
at_in (Some moment) bytes = at_with (moment_in moment) (bytes_of bytes)
at_in None bytes = None

-- PATH, FROM and TO
abbrev pub trace_in : Option Text → Option Text → Option Text → Option Question
trace_in (Some path) (Some from) (Some to) = trace_with (path_in path) (event_in from) (event_in to)
trace_in _ _ _ = None

-- ---- the commands

-- `--id` with a text, which may be left out
abbrev pub option_rule : Text → Rule
option_rule id = record (new_rule id) { long = Some id }

-- a command with what each of them has
unfoldable pub run_app : Text → App
run_app name = with_rules (new_app name) (fuel_rule ∷ flag (codes "json") ∷ option_rule (codes "source") ∷ required_rule (codes "image") ∷ required_rule (codes "script") ∷ [])

-- to `clap` the words for a moment and for bytes are any texts
unfoldable pub at_app : App
at_app = with_rules (run_app (codes "at")) (option_rule (codes "bytes") ∷ required_rule (codes "moment") ∷ [])

-- and so are those for a path and for events
unfoldable pub trace_app : App
trace_app = with_rules (run_app (codes "trace")) (required_rule (codes "path") ∷ required_rule (codes "from") ∷ required_rule (codes "to") ∷ [])

abbrev pub why_app : App
why_app = run_app (codes "why")

-- a command has to follow the program's name, and none of them is called `help`
abbrev pub start : App
start = on_top (λ s. record s { subcommand_required = true; disable_help_subcommand = true }) (new_app (codes "explain"))

unfoldable pub program_app : App
program_app = with_subcommand (with_subcommand (with_subcommand start at_app.top) trace_app.top) why_app.top

-- ---- the line

-- a question about a run; the fuel and the file names of the run; whether JSON is wanted, and the file name of a source, where one is given
pub record Command : Type 0 where
  pub question : Question
  pub fuel : ℕ
  pub json : Bool
  pub image : Text
  pub script : Text
  pub source : Option Text

-- events are counted from 1, and from 1 to 4,194,304 bytes are shown
abbrev pub IsCounted : Question → Type 0
IsCounted (at_moment m bytes) = IfSome m.event (λ k. 1 ≤ k) × IfSome bytes (λ b. (1 ≤ b.count) × (b.count ≤ most_bytes))
IsCounted (trace_of path from to) = (1 ≤ from) × (1 ≤ to)
IsCounted why = Unit {0}

-- numbers are in their ranges
abbrev pub IsInRange : Command → Type 0
IsInRange c = (1 ≤ c.fuel) × (c.fuel < 2 ^ 32) × IsCounted c.question

-- the parts, where all that have to be there are
abbrev pub command_with : Bool → Option Text → Option ℕ → Option Text → Option Text → Option Question → Option Command
command_with json source (Some fuel) (Some image) (Some script) (Some question) =
    Some (record { question = question; fuel = fuel; json = json; image = image; script = script; source = source })
command_with _ _ _ _ _ _ = None

abbrev pub at_from : List Row → Option Question
at_from rows = at_in (first_of (codes "moment") rows) (first_of (codes "bytes") rows)

abbrev pub trace_from : List Row → Option Question
trace_from rows = trace_in (first_of (codes "path") rows) (first_of (codes "from") rows) (first_of (codes "to") rows)

-- the question that the words of a command write
abbrev pub question_named : Text × List Row → Option Question
question_named p = if bytes_eq p.0 (codes "at") then at_from p.1
    else if bytes_eq p.0 (codes "trace") then trace_from p.1
    else if bytes_eq p.0 (codes "why") then Some why
    else None

unfoldable pub line_with : Option Question → List Row → Option Command
line_with question rows =
    command_with (has_flag (codes "json") rows) (first_of (codes "source") rows) (fuel_of rows) (first_of (codes "image") rows) (first_of (codes "script") rows) question

abbrev pub command_line : Text × List Row → Option Command
command_line p = line_with (question_named p) p.1

-- The first of the words is the program's name.
unfoldable pub line : List Text → Option Command
line words = if is_empty (fault_of program_app words)
    then option_and_then command_line (subcommand_of program_app words) else None

-- the words are refused: `clap` has a kind of error for them, or they write no question
abbrev pub IsRefused : List Text → Type 0
IsRefused words = ¬ (fault_of program_app words ≡ []) ⊎ (option_and_then question_named (subcommand_of program_app words) ≡ None)

-- ---- what the code has

abbrev pub moment_of : code_moment.Moment → Moment
moment_of m = record { path = m.path.items; event = m.event }

abbrev pub question_of : code_question.Question → Question
question_of (question.At m bytes) = at_moment (moment_of m) bytes
question_of (question.Trace path from to) = trace_of path.items from to
question_of question.Why = why

abbrev pub line_of : code.Command → Command
line_of c = record { question = question_of c.question; fuel = c.fuel; json = c.json; image = c.image.now; script = c.script.now; source = option_map (λ s. s.now) c.source }
