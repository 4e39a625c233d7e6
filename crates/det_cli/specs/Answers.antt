-- What a call of the program answers and writes.
-- Our choice: the ends of a call, their causes, and what each leaves.
use Rattle.std.specs.Prelude.{◌≡◌, ◌≤◌, ◌+◌, ◌⊎◌, ℕ, List, length, take, Option, Some, None}
use Rattle.det_host.specs.Outside.{Rose}
use Rattle.command_line.specs.Line.{Line, line, IsRefused}
use Rattle.det_cli.specs.declared.end.End.{End}
use Rattle.det_cli.specs.declared.end.End.TheVariants.{Usage, ReadFault, WriteFault, NoMemory}
use Rattle.det_cli.specs.Status.{IsDone, IsBad, IsEarly}
use Rattle.det_cli.specs.Lines.{fault_line}
use Rattle.det_host.specs.Writing.{Output, IsUntouched, Wrote, WrotePrefix, StopsWithin}
use Rattle.det_cli.specs.Files.{Expectation, Input, ReadFiles, told_files}
use Rattle.det_cli.specs.Commands.{steps_of, whole_of, expectation_of_files, expectation_of_told}

-- How the writing of a whole answer ends: all is written; or a fault stopped one of the two texts before its end, the second only behind the
-- whole first; or memory ran out behind some first bytes of them.
abbrev pub Writes : Expectation → Output → Output → End → Type 0
Writes e out err end =
    ((end ≡ e.end) × Wrote out e.out × Wrote err e.err)
    ⊎ ((end ≡ WriteFault) × ((StopsWithin out e.out × IsUntouched err) ⊎ (Wrote out e.out × StopsWithin err e.err)))
    ⊎ ((end ≡ NoMemory) × WrotePrefix out e.out × WrotePrefix err e.err × (Wrote out e.out ⊎ IsUntouched err))

-- What comes of that which the files decide. While they decide nothing, a load failed or memory ran out, and nothing is written. A whole
-- answer is written. At a refusal nothing is written.
abbrev pub Ends : Option Expectation → Input → Output → Output → End → Type 0
Ends None i out err end = IsUntouched out × IsUntouched err × (((end ≡ ReadFault) × Rose i.faults_before i.faults_after) ⊎ (end ≡ NoMemory))
Ends (Some e) i out err end = (IsDone e.end × Writes e out err end) ⊎ (IsBad e.end × IsUntouched out × IsUntouched err × ((end ≡ e.end) ⊎ (end ≡ NoMemory)))

-- How a command goes: there are files, those that are told among them, of which it makes what it answers.
pub record Course (l : Line) (i : Input) (out err : Output) (end : End) : Type 0 where
  pub contents : List (List ℕ)
  pub files : ReadFiles (steps_of l) (whole_of l) contents i
  pub ends : Ends (expectation_of_files l contents) i out err end

-- no file was asked for, and the loader's count of faults is as before
abbrev pub IsUnasked : Input → Type 0
IsUnasked i = (i.asked_after ≡ i.asked_before) × (i.faults_after ≡ i.faults_before)

-- with no command nothing is loaded and nothing is written
abbrev pub NoCourse : Input → Output → Output → End → Type 0
NoCourse i out err end = ((end ≡ Usage) ⊎ (end ≡ NoMemory)) × IsUnasked i × IsUntouched out × IsUntouched err

abbrev pub CourseOf : Option Line → Input → Output → Output → End → Type 0
CourseOf None i out err end = NoCourse i out err end
CourseOf (Some l) i out err end = Course l i out err end

-- no count falls
abbrev pub Later : Input → Output → Output → Type 0
Later i out err = (i.faults_before ≤ i.faults_after) × (out.faults_before ≤ out.faults_after) × (err.faults_before ≤ err.faults_after)

-- a call: its words, its loader and its sinks, and its end
pub record Answer : Type 0 where
  pub words : List (List ℕ)
  pub input : Input
  pub out : Output
  pub err : Output
  pub end : End

-- what a call promises
pub record Answers (a : Answer) : Type 0 where
  -- the words alone decide Usage
  pub usage : a.end ≡ Usage → IsRefused a.words × (line a.words ≡ None)
  pub refused : IsRefused a.words ⊎ (line a.words ≡ None) → (a.end ≡ Usage) ⊎ (a.end ≡ NoMemory)
  -- what is loaded and written, whatever is told
  pub course : CourseOf (line a.words) a.input a.out a.err a.end
  -- what is told decides: then that is the end, or a load failed
  pub expected : (l : Line) → line a.words ≡ Some l → (e : Expectation) → expectation_of_told l a.input.told ≡ Some e
      → Ends (Some e) a.input a.out a.err a.end ⊎ Ends None a.input a.out a.err a.end
  -- no file is asked for behind those that, as told, decide
  pub asked : (l : Line) → line a.words ≡ Some l → (j : ℕ) (e : Expectation) → expectation_of_files l (take j (told_files (steps_of l) a.input.told)) ≡ Some e
      → length a.input.asked_after ≤ length a.input.asked_before + j
  -- where what is told is a whole answer and no count rose, it is given whole, unless memory ran out
  pub complete : (l : Line) → line a.words ≡ Some l → (e : Expectation) → expectation_of_told l a.input.told ≡ Some e → IsDone e.end
      → (Rose a.input.faults_before a.input.faults_after ⊎ Rose a.out.faults_before a.out.faults_after ⊎ Rose a.err.faults_before a.err.faults_after → ⊥)
      → ((a.end ≡ e.end) × Wrote a.out e.out × Wrote a.err e.err) ⊎ (a.end ≡ NoMemory)
  -- the causes that the files do not tell
  pub read_fault : a.end ≡ ReadFault → Rose a.input.faults_before a.input.faults_after
  pub write_fault : a.end ≡ WriteFault → Rose a.out.faults_before a.out.faults_after ⊎ Rose a.err.faults_before a.err.faults_after
  pub early : IsEarly a.end → IsUntouched a.out × IsUntouched a.err
  pub later : Later a.input a.out a.err

-- The fault line of an end, in a sink behind what it had taken: the whole line; or a part of it, where a fault stopped it; or memory ran out, behind
-- some first bytes of some end's line.
abbrev pub Says : Output → End → Type 0
Says o end = Wrote o (fault_line end) ⊎ StopsWithin o (fault_line end) ⊎ ((end ≡ NoMemory) × ((ended : End) × WrotePrefix o (fault_line ended)))

-- `err` up to a place between two calls, and from there on
abbrev pub until : Output → Option (List ℕ) → ℕ → Output
until o taken faults = record o { taken_after = taken; faults_after = faults }

abbrev pub since : Output → Option (List ℕ) → ℕ → Output
since o taken faults = record o { taken_before = taken; faults_before = faults }

-- what the whole program promises: the same, and then the fault line of the same end
pub record Program (a : Answer) : Type 0 where
  pub taken : Option (List ℕ)
  pub faults : ℕ
  pub answers : Answers (record a { err = until a.err taken faults })
  pub line : Says (since a.err taken faults) a.end
  pub later : faults ≤ a.err.faults_after
