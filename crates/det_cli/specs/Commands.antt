-- What the files of a command make: a settled root that is shown or summed up, or the image of a source.
-- Our choice: the commands, the room of their files, and what they write.
use Rattle.std.specs.Prelude.{ℕ, Bool, List, [], ◌∷◌, map, Option, Some, None, Result, Ok, Err, cond, if◌then◌else◌}
use Rattle.command_line.specs.Line.{Engine, Line, run, asm, bench, files_of_engine}
use Rattle.image_model.specs.Image.{Image, image_bytes}
use Rattle.image_model.specs.Reading.{image_of}
use Rattle.elf_model.specs.Elf.{is_elf}
use Rattle.elf_model.specs.Reading.{elf_of}
use Rattle.source_model.specs.Reading.{source_of}
use Rattle.script_model.specs.declared.error.ScriptError.{ScriptError}
use Rattle.device_model.specs.Devices.{Devices}
use Rattle.script_model.specs.Script.{devices_from}
use Rattle.script_model.specs.Reading.{script_of}
use Rattle.schedule_model.specs.declared.error.ScheduleError.{ScheduleError}
use Rattle.schedule_model.specs.Reading.{schedule_of}
use Rattle.bench_model.specs.Generated.{generated}
use Rattle.space_model.specs.Space.{Space, top_of}
use Rattle.space_model.specs.Stop.{has_returned}
use Rattle.run_model.specs.Boot.{boot}
use Rattle.run_model.specs.Demand.{settle_tree}
use Rattle.report_model.specs.Report.{console_of, report}
use Rattle.report_model.specs.Summary.{summary}
use Rattle.det_cli.specs.declared.end.End.{End}
use Rattle.det_cli.specs.declared.end.End.TheVariants.{Ret, Trapped, BadImage, BadElf, BadScript, BadSchedule, BadSource}
use Rattle.det_cli.specs.Files.{Expectation, Step, judge, told_files}

-- the most bytes of an image file, of a script, of a schedule and of a source
abbrev pub image_room : ℕ
image_room = 16777216

abbrev pub script_room : ℕ
script_room = 1048576

abbrev pub schedule_room : ℕ
schedule_room = 1048576

abbrev pub source_room : ℕ
source_room = 1048576

-- how many events each space of a generated image may take
abbrev pub bench_fuel : ℕ
bench_fuel = 1000000

-- what a file was read as, or the end that its first fault is
abbrev pub read_or : {A E : Type 0} → (E → End) → Result A E → Result A End
read_or end (Ok value) = Ok value
read_or end (Err fault) = Err (end fault)

-- The image of a file's bytes, or the end that refuses them. The first four bytes say whether the file is an executable one or an image in the
-- format DTI1 or DTI2.
abbrev pub image_of_file : List ℕ → Result Image End
image_of_file bytes = if is_elf bytes then read_or (λ e. BadElf e) (elf_of bytes) else read_or (λ e. BadImage e) (image_of bytes)

abbrev pub devices_of_file : List ℕ → Result Devices End
devices_of_file bytes = read_or (λ (e : ScriptError). BadScript e) (script_of bytes)

abbrev pub paths_of_file : List ℕ → Result (List (List ℕ)) End
paths_of_file bytes = read_or (λ (e : ScheduleError). BadSchedule e) (schedule_of bytes)

abbrev pub image_of_source : List ℕ → Result Image End
image_of_source bytes = read_or (λ e. BadSource e) (source_of bytes)

-- the end that refuses
abbrev pub refusal_of : {A : Type 0} → Result A End → Option End
refusal_of (Ok value) = None
refusal_of (Err end) = Some end

abbrev pub image_step : List ℕ → Step
image_step name = record { name = name; room = image_room; refuse = λ bytes. refusal_of (image_of_file bytes) }

abbrev pub script_step : List ℕ → Step
script_step name = record { name = name; room = script_room; refuse = λ bytes. refusal_of (devices_of_file bytes) }

abbrev pub schedule_step : List ℕ → Step
schedule_step name = record { name = name; room = schedule_room; refuse = λ bytes. refusal_of (paths_of_file bytes) }

abbrev pub source_step : List ℕ → Step
source_step name = record { name = name; room = source_room; refuse = λ bytes. refusal_of (image_of_source bytes) }

-- the settled root of an image with these devices, where each space has so much fuel
abbrev pub settled_root : Image → Devices → ℕ → Space
settled_root image devices fuel = settle_tree (boot image devices fuel)

-- the end of a settled root
abbrev pub end_of : Space → End
end_of s = let t = top_of s in cond (has_returned t.status) Ret Trapped

-- a settled root is shown by its console and its report, with digests or without
abbrev pub expectation_of_root : Bool → Space → Expectation
expectation_of_root digest s = record { out = console_of s; err = report digest s; end = end_of s }

-- an image is written as it is spelled, and a summary as it is
abbrev pub expectation_of_bytes : List ℕ → Expectation
expectation_of_bytes bytes = record { out = bytes; err = []; end = Ret }

-- What a run of an image with these devices shows, where each space has so much fuel, with digests or without. The engine is not asked: in whatever order
-- events happen, a tree ends as the same tree.
abbrev pub run_shows : ℕ → Bool → Image → Devices → Expectation
run_shows fuel digest image devices = expectation_of_root digest (settled_root image devices fuel)

abbrev pub expectation_of_run : ℕ → Bool → Result Image End → Result Devices End → Option Expectation
expectation_of_run fuel digest (Ok image) (Ok devices) = Some (run_shows fuel digest image devices)
expectation_of_run fuel digest image devices = None

abbrev pub expectation_of_source : Result Image End → Option Expectation
expectation_of_source (Ok image) = Some (expectation_of_bytes (image_bytes image))
expectation_of_source (Err end) = None

-- a generated image runs on an empty script
abbrev pub expectation_of_bench : ℕ → Expectation
expectation_of_bench seed = expectation_of_bytes (summary (settled_root (generated seed) (devices_from []) bench_fuel))

abbrev pub run_whole : ℕ → Bool → List (List ℕ) → Option Expectation
run_whole fuel digest (image ∷ script ∷ rest) = expectation_of_run fuel digest (image_of_file image) (devices_of_file script)
run_whole fuel digest files = None

abbrev pub asm_whole : List (List ℕ) → Option Expectation
asm_whole [] = None
asm_whole (source ∷ rest) = expectation_of_source (image_of_source source)

-- the files of an engine are schedules
abbrev pub engine_steps : Engine → List Step
engine_steps engine = map schedule_step (files_of_engine engine)

-- the files of a command, in the order of the words
abbrev pub steps_of : Line → List Step
steps_of (run r) = image_step r.image ∷ script_step r.script ∷ engine_steps r.engine
steps_of (asm source) = source_step source ∷ []
steps_of (bench engine seed) = engine_steps engine

-- what all files of a command make, where none is refused; of an engine only its files count, and only in that they are read
abbrev pub whole_of : Line → List (List ℕ) → Option Expectation
whole_of (run r) files = run_whole r.fuel r.digest files
whole_of (asm source) files = asm_whole files
whole_of (bench engine seed) files = Some (expectation_of_bench seed)

-- what a command makes of its first files
abbrev pub expectation_of_files : Line → List (List ℕ) → Option Expectation
expectation_of_files l files = judge (steps_of l) (whole_of l) files

-- what is expected of a command and of the files that are told: None if a needed file is not told
abbrev pub expectation_of_told : Line → (List ℕ → Option (List ℕ)) → Option Expectation
expectation_of_told l told = expectation_of_files l (told_files (steps_of l) told)
