-- What is kept of own events: a line of each, or the last that changed what is watched.
-- Our choice: what can be watched, and what is told of an event that changed it.
use Rattle.std.specs.Prelude.{◌≡◌, ℕ, suc, ◌<◌, ◌==◌, nat_le, Bool, true, false, not, List, [], ◌∷◌, ◌++◌, Option, Some, None, slice_index, if◌then◌else◌}
use Rattle.std.specs.List.{slice_get}
use Rattle.memory_model.specs.Memory.{Memory, byte_at}
use Rattle.instruction_model.specs.declared.Instruction.{Instruction}
use Rattle.instruction_model.specs.Outcome.{Registers}
use Rattle.space_model.specs.Space.{Top}
use Rattle.event_laws.specs.OwnEvents.{OwnEvent}
use Rattle.explain_core.specs.declared.watching.Asked.{Asked}
use Rattle.explain_core.specs.declared.watching.Change.{Change}
use Rattle.explain_core.specs.declared.watching.Found.{Found}
use Rattle.explain_core.specs.declared.watching.Kept as code
use Rattle.explain_core.specs.declared.watching.Moment.{Moment}
use Rattle.explain_core.specs.declared.watching.Noticing.{Noticing}
use Rattle.explain_core.specs.declared.watching.Noticing.TheVariants as notice
use Rattle.explain_core.specs.declared.watching.Watched.{Watched}
use Rattle.explain_core.specs.declared.watching.Watched.TheVariants.{Byte, Register}
use Rattle.explain_core.specs.Instructions.{instruction_at_pc}
use Rattle.explain_core.specs.Trace.{calling_memory, event_line, traced_line}

-- what is watched, in registers and memory
abbrev pub value_in : Watched → List ℕ → Memory → ℕ
value_in (Byte a) x m = byte_at m a
value_in (Register r) x m = slice_index x r

-- and in a space
abbrev pub watched_in : Watched → Top → ℕ
watched_in w t = let r = t.registers in value_in w r.x t.memory

-- an event leaves another value than it found
abbrev pub changes : Watched → OwnEvent → Bool
changes w e = not (watched_in w e.after == watched_in w e.before)

-- of own events, the one behind so many others changes what is watched, and none behind it does
pub record IsLastChange (w : Watched) (es : List OwnEvent) (k : ℕ) (e : OwnEvent) : Type 0 where
  pub event : slice_get es k ≡ Some e
  pub changed : changes w e ≡ true
  pub last : (j : ℕ) (f : OwnEvent) → k < j → slice_get es j ≡ Some f → changes w f ≡ false

-- none of them changes it
abbrev pub NoneChanges : Watched → List OwnEvent → Type 0
NoneChanges w es = (k : ℕ) (e : OwnEvent) → slice_get es k ≡ Some e → changes w e ≡ false

-- what is kept of an event that changed what is watched, by what it found and what it left
abbrev pub moment_of : Watched → ℕ → Found → Top → Moment
moment_of w number found after = record { number = number; found = found; after = after.registers; status = after.status; value = watched_in w after }

-- what is told of an event
pub record Noted : Type 0 where
  pub number : ℕ
  pub registers : Registers
  pub instruction : Option Instruction
  pub value : ℕ
  pub line : List ℕ

abbrev pub noted_of : Change → Noted
noted_of c = record { number = c.number; registers = c.registers; instruction = c.instruction; value = c.value; line = c.line.items }

-- of the own event of a number at a path: its registers and the instruction at pc before it, what is watched after it, and its line
abbrev pub note : List ℕ → Watched → ℕ → OwnEvent → Noted
note p w number e =
    let t = e.before in
    let u = e.after in record { number = number; registers = t.registers; instruction = instruction_at_pc t; value = watched_in w u; line = event_line p number t.registers (instruction_at_pc t) u.status u.registers }

-- the same in the words of what is kept
abbrev pub told : List ℕ → Moment → Noted
told p m =
    let f = m.found in record { number = m.number; registers = f.registers; instruction = f.instruction; value = m.value; line = event_line p m.number f.registers f.instruction m.status m.after }

-- the lines so far, and the last event that changed what is watched
pub record Kept : Type 0 where
  pub lines : List ℕ
  pub last : Option Moment

abbrev pub kept_of : code.Kept → Kept
kept_of k = record { lines = k.lines.items; last = k.last }

abbrev pub nothing_kept : Kept
nothing_kept = record { lines = []; last = None }

-- what is watched before an event; 0 where nothing is
abbrev pub value_before : Noticing → Top → ℕ
value_before notice.Lines t = 0
value_before (notice.Change w) t = watched_in w t

-- what an event finds of a space
abbrev pub found_by : Noticing → Top → Found
found_by n t = record { registers = t.registers; instruction = instruction_at_pc t; value = value_before n t }

-- the memory before an event, where its line is wanted and needs it
abbrev pub memory_before : Noticing → Top → Option Memory
memory_before notice.Lines t = calling_memory t
memory_before (notice.Change w) t = None

-- the last event that changed what is watched, where there was one, takes the place of the one before
abbrev pub with_last : Option Moment → Kept → Kept
with_last None kept = kept
with_last (Some m) kept = record { lines = kept.lines; last = Some m }

-- an event of a number is noticed, by what it found, the memory before it, and what it left
abbrev pub noticed : List ℕ → Noticing → ℕ → Found → Option Memory → Top → Kept → Kept
noticed p notice.Lines number found memory after kept = record { lines = kept.lines ++ traced_line p number found.registers found.instruction memory after; last = kept.last }
noticed p (notice.Change w) number found memory after kept = if watched_in w after == found.value then kept else with_last (Some (moment_of w number found after)) kept

-- the own event behind k others, where it is asked for
abbrev pub keep : Asked → ℕ → OwnEvent → Kept → Kept
keep a k e kept = if nat_le a.from (suc k) then noticed a.path.items a.noticing (suc k) (found_by a.noticing e.before) (memory_before a.noticing e.before) e.after kept else kept

-- what is kept of an own event of a number that changed what is watched
unfoldable pub moment_at : Watched → ℕ → OwnEvent → Moment
moment_at w number e = moment_of w number (found_by (notice.Change w) e.before) e.after

-- own events, of which k stand before, one after the other
abbrev pub keep_all : Asked → ℕ → List OwnEvent → Kept → Kept
keep_all a k [] kept = kept
keep_all a k (e ∷ es) kept = keep_all a (suc k) es (keep a k e kept)
