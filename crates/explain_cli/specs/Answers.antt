-- What a call of the program answers and writes.
-- Our choice: the ends of a call, their causes, and what each leaves.
use Rattle.std.specs.Prelude.{◌≡◌, ◌⊎◌, ℕ, List, [], ◌∷◌, Option, Some, None, Result, Ok, if◌then◌else◌}
use Rattle.det_host.specs.Outside.{Rose}
use Rattle.det_host.specs.Writing.{Output, IsUntouched, Wrote, WrotePrefix, StopsWithin}
use Rattle.image_model.specs.Image.{Image}
use Rattle.elf_model.specs.Elf.{is_elf}
use Rattle.device_model.specs.Devices.{Devices}
use Rattle.run_model.specs.Boot.{boot}
use Rattle.det_cli.specs.declared.end.End as det
use Rattle.det_cli.specs.declared.end.End.TheVariants.{ReadFault, WriteFault, NoMemory}
use Rattle.det_cli.specs.Status.{IsBad}
use Rattle.det_cli.specs.Files.{Expectation, Input, ReadFiles, Step, refusal_at, told_files}
use Rattle.det_cli.specs.Commands.{devices_of_file, expectation_of_bytes, image_of_file, image_of_source, image_step, refusal_of, script_step}
use Rattle.det_cli.specs.Answers.{IsUnasked, Later}
use Rattle.symbols.specs.Symbols.{Symbol}
use Rattle.image_symbols.specs.Files.{AreSymbolsOf}
use Rattle.explain_words.specs.Line.{Command, line, IsRefused}
use Rattle.explain_cli.specs.About.{text_asked}
use Rattle.explain_cli.specs.declared.end.End.{End}
use Rattle.explain_cli.specs.declared.end.End.TheVariants.{Shown, Usage, Failed}
use Rattle.explain_cli.specs.Ends.{line_text}
use Rattle.explain_cli.specs.Explains.{Explains, NeverComes, Shows, ShowsWritten}

-- a file gives names that is an executable file, or else a source of `det asm`
abbrev pub refusal_of_names : List ℕ → Option det.End
refusal_of_names bytes = if is_elf bytes then None else refusal_of (image_of_source bytes)

-- and it may be as large as an image
abbrev pub names_step : List ℕ → Step
names_step name = record (image_step name) { refuse = λ bytes. refusal_of_names bytes }

-- the file that gives names, where one is given
abbrev pub source_steps : Option (List ℕ) → List Step
source_steps None = []
source_steps (Some name) = names_step name ∷ []

-- the files of a command, in the order in which they are read
abbrev pub steps_of : Command → List Step
steps_of c = image_step c.image ∷ script_step c.script ∷ source_steps c.source

-- that none of them is refused decides as well, so that no more are asked for
abbrev pub all_read : List (List ℕ) → Option Expectation
all_read files = Some (expectation_of_bytes [])

-- what the first files decide: nothing as yet; or that one is refused, and how; or what is to be run, and the file that gives names
pub data Decision : Type 0 where
  undecided : Decision
  refused : det.End → Decision
  run : Image → Devices → Option (List ℕ) → Decision

-- a refusal, where there is one; else the rest
abbrev pub refused_or : Option det.End → Decision → Decision
refused_or None rest = rest
refused_or (Some e) rest = refused e

-- the refusal of the first file that is refused; else what all of them make; nothing while one is still to be read
abbrev pub decide : List Step → (List (List ℕ) → Decision) → List (List ℕ) → Decision
decide [] whole files = whole []
decide (s ∷ ss) whole [] = undecided
decide (s ∷ ss) whole (f ∷ fs) = refused_or (refusal_at s f) (decide ss (λ rest. whole (f ∷ rest)) fs)

abbrev pub run_of : Result Image det.End → Result Devices det.End → Option (List ℕ) → Decision
run_of (Ok image) (Ok devices) source = run image devices source
run_of image devices source = undecided

-- a file more, where there is one
abbrev pub first_of : List (List ℕ) → Option (List ℕ)
first_of [] = None
first_of (source ∷ rest) = Some source

-- the file that gives names: the one that is given, or else the image, where it is an executable file
abbrev pub naming_file : List ℕ → Option (List ℕ) → Option (List ℕ)
naming_file image None = if is_elf image then Some image else None
naming_file image (Some source) = Some source

-- what all files of a command make
abbrev pub whole_of : List (List ℕ) → Decision
whole_of (image ∷ script ∷ rest) = run_of (image_of_file image) (devices_of_file script) (naming_file image (first_of rest))
whole_of files = undecided

abbrev pub decision_of : Command → List (List ℕ) → Decision
decision_of c files = decide (steps_of c) whole_of files

-- the symbols that a file gives, where there is one
abbrev pub AreNames : Option (List ℕ) → Option (List Symbol) → Type 0
AreNames None None = Unit {0}
AreNames (Some file) (Some symbols) = AreSymbolsOf file symbols
AreNames source symbols = ⊥

-- What comes of that which the files decide. While they decide nothing, a load failed or memory ran out, and nothing is written. At a refusal
-- nothing is written. Else the question is answered, of the tree that the image boots to with these devices and this fuel.
abbrev pub Ends : Command → Decision → Input → Output → End → Type 0
Ends c undecided i out end = IsUntouched out × (((end ≡ Failed ReadFault) × Rose i.faults_before i.faults_after) ⊎ (end ≡ Failed NoMemory))
Ends c (refused e) i out end = IsBad e × IsUntouched out × ((end ≡ Failed e) ⊎ (end ≡ Failed NoMemory))
Ends c (run image devices source) i out end = (symbols : Option (List Symbol)) × AreNames source symbols × Explains (boot image devices c.fuel) c symbols out end

-- How a command goes: there are files, those that are told among them, which decide how it ends.
pub record Course (c : Command) (i : Input) (out : Output) (end : End) : Type 0 where
  pub contents : List (List ℕ)
  pub files : ReadFiles (steps_of c) all_read contents i
  pub ends : Ends c (decision_of c contents) i out end

-- with no command nothing is loaded and nothing is written
abbrev pub NoCourse : Input → Output → End → Type 0
NoCourse i out end = ((end ≡ Usage) ⊎ (end ≡ Failed NoMemory)) × IsUnasked i × IsUntouched out

abbrev pub CourseOf : Option Command → Input → Output → End → Type 0
CourseOf None i out end = NoCourse i out end
CourseOf (Some c) i out end = Course c i out end

-- The line of an end, in a sink behind what it had taken: the whole line; or a part of it, where a fault stopped it; or memory ran out, behind some
-- first bytes of some end's line.
abbrev pub Says : Output → End → Type 0
Says o end = Wrote o (line_text end) ⊎ StopsWithin o (line_text end) ⊎ ((end ≡ Failed NoMemory) × ((ended : End) × WrotePrefix o (line_text ended)))

-- no load failed, and no write of the text
abbrev pub IsQuiet : Input → Output → Type 0
IsQuiet i out = Rose i.faults_before i.faults_after ⊎ Rose out.faults_before out.faults_after → ⊥

-- a call: its words, its loader and its sinks, and its end
pub record Answer : Type 0 where
  pub words : List (List ℕ)
  pub input : Input
  pub out : Output
  pub err : Output
  pub end : End

-- what a call promises before its line is written
pub record Begun (words : List (List ℕ)) (i : Input) (out : Output) (end : End) : Type 0 where
  -- the words alone decide Usage
  pub usage : end ≡ Usage → IsRefused words × (line words ≡ None)
  pub refused : IsRefused words ⊎ (line words ≡ None) → (end ≡ Usage) ⊎ (end ≡ Failed NoMemory)
  -- what is loaded and written, whatever is told
  pub course : CourseOf (line words) i out end
  -- what is told decides: then that is the end, or a load failed
  pub expected : (c : Command) → line words ≡ Some c → (d : Decision) → decision_of c (told_files (steps_of c) i.told) ≡ d → (d ≡ undecided → ⊥)
      → Ends c d i out end ⊎ Ends c undecided i out end
  -- where what is told is a run and no count rose, the answer is written whole, or the moment never comes, unless memory ran out
  pub complete : (c : Command) → line words ≡ Some c → (image : Image) (devices : Devices) (source : Option (List ℕ)) → decision_of c (told_files (steps_of c) i.told) ≡ run image devices source → IsQuiet i out
      → ((end ≡ Shown) × (symbols : Option (List Symbol)) × AreNames source symbols × (text : List ℕ) × Shows (boot image devices c.fuel) c symbols text × Wrote out text)
      ⊎ (NeverComes (boot image devices c.fuel) c.question end × IsUntouched out)
      ⊎ (end ≡ Failed NoMemory)
  -- the causes that the files do not tell
  pub read_fault : end ≡ Failed ReadFault → Rose i.faults_before i.faults_after
  pub write_fault : end ≡ Failed WriteFault → Rose out.faults_before out.faults_after

-- what a call promises before its line is written, by the text that the words ask for: nothing is loaded, and that text is written; or as `Begun`
abbrev pub BegunOf : Option (List ℕ) → List (List ℕ) → Input → Output → End → Type 0
BegunOf None words i out end = Begun words i out end
BegunOf (Some text) words i out end = IsUnasked i × ShowsWritten out text end

-- what a call promises
pub record Answers (a : Answer) : Type 0 where
  -- which end it has, and what it has loaded and written to `out`
  pub begun : BegunOf (text_asked a.words) a.words a.input a.out a.end
  -- what it has written to `err`
  pub said : Says a.err a.end
  pub later : Later a.input a.out a.err
