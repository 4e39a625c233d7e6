-- The lines of the last two own events of paths, of a tree that goes on turn by turn.
-- Our choice: a restatement for proofs.
use Rattle.std.specs.Prelude.{◌≡◌, ℕ, ◌+◌, ◌-◌, ◌<◌, ◌≤◌, nat_le, List, [], ◌∷◌, ◌++◌, length, Option, Some, None, IfSome, if◌then◌else◌, option_map}
use Rattle.arrayvec.specs.ArrayVec.{ArrayVec}
use Rattle.space_mem.specs.Held.{memory_in}
use Rattle.space_model.specs.Path.{at}
use Rattle.space_model.specs.Space.{Space, Top, top_of}
use Rattle.det_laws.specs.Tree.{after_all}
use Rattle.event_laws.specs.OwnEvents.{OwnEvent, own_events}
use Rattle.explain_core.specs.declared.last_lines.Ending.{Ending}
use Rattle.explain_core.specs.declared.last_lines.NextLine.{NextLine}
use Rattle.explain_core.specs.declared.last_lines.NextLine.TheVariants.{Quiet, Line, Over}
use Rattle.explain_core.specs.declared.line_run.LineRun.{LineRun}
use Rattle.explain_core.specs.declared.line_run.Wanted.{Wanted}
use Rattle.explain_core.specs.declared.watching.Before.{Before}
use Rattle.explain_core.specs.declared.watching.Noticing.TheVariants.{Lines}
use Rattle.explain_core.specs.Trace.{trace_lines, traced_line}
use Rattle.explain_core.specs.Watch.{found_by, memory_before}
use Rattle.explain_core.specs.WatchList.{entry_at}

abbrev pub Endings : Type 0
Endings = List (ArrayVec ℕ × Ending)

-- an ending tells of own events: how many there are, and the lines of those from the last but one on that there are to be
pub record TellsOf (p : List ℕ) (own : List OwnEvent) (e : Ending) : Type 0 where
  pub had : length own ≡ e.had
  pub lines : e.lines.items ≡ trace_lines p (e.count - 1) 0 own

-- a tree has come by a schedule of which endings tell
pub record TellsEndings (root : Space) (es : Endings) (now : Space) : Type 0 where
  pub schedule : List (List ℕ)
  pub leads : after_all schedule root ≡ now
  pub each : (q : List ℕ) → IfSome (entry_at es q) (TellsOf q (own_events q schedule root))

-- nothing has happened yet
abbrev pub AreFresh : Endings → Type 0
AreFresh es = (q : List ℕ) → IfSome (entry_at es q) (λ e. (e.had ≡ 0) × (e.lines.items ≡ []))

abbrev pub IsFresh : Wanted → Type 0
IsFresh w = AreFresh w.endings.entries

-- a tree goes on by own events of one path alone
pub record GoesAlone (p : List ℕ) (own : List OwnEvent) (s now : Space) : Type 0 where
  pub schedule : List (List ℕ)
  pub leads : after_all schedule s ≡ now
  pub events : own_events p schedule s ≡ own
  pub others : (q : List ℕ) → (q ≡ p → ⊥) → own_events q schedule s ≡ []

-- what the next event of a top finds, and the memory before it, where its line needs it
abbrev pub FindsTop : Top → Before → Type 0
FindsTop t b = (b.found ≡ found_by Lines t) × (memory_in b.memory ≡ memory_before Lines t)

-- and of the top at a path
abbrev pub FindsAt : List ℕ → Space → Before → Type 0
FindsAt p s b = (t : Top) × (Some t ≡ option_map top_of (at p s)) × FindsTop t b

-- the line of an event, by what it found and the top that it left
abbrev pub IsLineOf : List ℕ → ℕ → Before → Top → List ℕ → Type 0
IsLineOf p number b t line = let f = b.found in line ≡ traced_line p number f.registers f.instruction (memory_in b.memory) t

-- and the one at a path
abbrev pub LeavesLine : List ℕ → ℕ → Before → List ℕ → Space → Type 0
LeavesLine p number b line s = (c : Space) × (at p s ≡ Some c) × IsLineOf p number b (top_of c) line

-- an event of a path, which has a line
pub record GoesWithLine (p : List ℕ) (number : ℕ) (line : List ℕ) (s now : Space) : Type 0 where
  pub event : OwnEvent
  pub goes : GoesAlone p (event ∷ []) s now
  pub told : trace_lines p 0 (number - 1) (event ∷ []) ≡ line

-- at one path alone stands another ending, made from the one that stood there
pub record Becomes (p : List ℕ) (so : Ending → Ending → Type 0) (old new : Endings) : Type 0 where
  pub here : (e : Ending) → entry_at new p ≡ Some e → (d : Ending) × (entry_at old p ≡ Some d) × so d e
  pub others : (q : List ℕ) → (q ≡ p → ⊥) → entry_at new q ≡ entry_at old q

-- behind so many events without a line
pub record CountsMore (n : ℕ) (d e : Ending) : Type 0 where
  pub count : e.count ≡ d.count
  pub had : e.had ≡ d.had + n
  pub lines : e.lines.items ≡ d.lines.items

-- so many may go by without a line
abbrev pub MayCount : ℕ → Ending → Type 0
MayCount n e = 0 < n → e.had + n + 2 ≤ e.count

-- behind an event with a line
pub record HasLine (line : List ℕ) (d e : Ending) : Type 0 where
  pub count : e.count ≡ d.count
  pub had : e.had ≡ d.had + 1
  pub lines : e.lines.items ≡ d.lines.items ++ line

-- what is kept of the next event: nothing, its line as that of a number; or there is to be none
abbrev pub next_line : Option Ending → NextLine
next_line None = Quiet
next_line (Some e) = if nat_le e.count e.had then Over else if nat_le e.count (e.had + 2) then Line (e.had + 1) else Quiet

-- a run has come from a tree by a schedule of which its endings tell
abbrev pub TellsLines : Space → LineRun → Type 0
TellsLines root r = TellsEndings root r.endings.entries r.tree

-- so many own events of a path have come, as many as there are to be, and these are their lines
abbrev pub HasAll : List ℕ → ℕ → List ℕ → Endings → Type 0
HasAll p count text es = (e : Ending) × (entry_at es p ≡ Some e) × (e.had ≡ count) × (e.count ≡ count) × (e.lines.items ≡ text)
