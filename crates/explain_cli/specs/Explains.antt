-- What is answered to a question about a run's tree, and how it is written.
-- Our choice: what comes of a moment that never comes.
use Rattle.std.specs.Prelude.{◌≡◌, ◌⊎◌, ℕ, ◌-◌, Bool, List, Option, Some, None, if◌then◌else◌, option_map}
use Rattle.space_model.specs.Space.{Space}
use Rattle.space_model.specs.Path.{at}
use Rattle.run_model.specs.Demand.{settle_tree}
use Rattle.det_host.specs.Writing.{Output, IsUntouched, Wrote, WrotePrefix, StopsWithin}
use Rattle.det_cli.specs.declared.end.End.TheVariants.{WriteFault, NoMemory}
use Rattle.explain_core.specs.Reached.{IsTrace, NeverHappens, ShowsEvent, ShowsSpace}
use Rattle.explain_core.specs.declared.bytes.Bytes as core
use Rattle.symbols.specs.Symbols.{Symbol}
use Rattle.explain_lines.specs.Names.{named}
use Rattle.explain_lines.specs.Objects.{json_of}
use Rattle.explain_why.specs.Why.{IsWhy}
use Rattle.explain_words.specs.declared.command.Bytes as words
use Rattle.explain_words.specs.Line.{Command, Question, at_moment, trace_of, why}
use Rattle.explain_cli.specs.declared.end.End.{End}
use Rattle.explain_cli.specs.declared.end.End.TheVariants.{Shown, NoEvent, NoSpace, Failed}

-- the bytes that words ask for
abbrev pub wanted : words.Bytes → core.Bytes
wanted b = record { address = b.address; count = b.count }

-- A text shows the space at a path behind an event: it is the text of its top there, with these bytes, the same in every schedule of the tree that has the event. With
-- no event it shows the space that stands there in the settled tree.
abbrev pub ShowsAt : Option core.Bytes → Space → List ℕ → Option ℕ → List ℕ → Type 0
ShowsAt bytes root path (Some k) text = ShowsEvent bytes root path (k - 1) text
ShowsAt bytes root path None text = ShowsSpace bytes path (settle_tree root) text

-- A text answers a question about a tree. A trace has a line for each own event from the one to the other, those of every schedule that has ended.
abbrev pub IsAnswer : Space → Question → List ℕ → Type 0
IsAnswer root (at_moment m bytes) text = ShowsAt (option_map wanted bytes) root m.path m.event text
IsAnswer root (trace_of path from to) text = IsTrace root path from to text
IsAnswer root why text = IsWhy root text

-- lines with the places of their addresses, where there are symbols
abbrev pub named_by : Option (List Symbol) → List ℕ → List ℕ
named_by None lines = lines
named_by (Some symbols) lines = named symbols lines

-- lines as they are, or the same as JSON
abbrev pub as_wanted : Bool → List ℕ → List ℕ
as_wanted json lines = if json then json_of lines else lines

-- a text answers the question of a command
pub record Shows (root : Space) (c : Command) (symbols : Option (List Symbol)) (text : List ℕ) : Type 0 where
  pub lines : List ℕ
  pub answer : IsAnswer root c.question lines
  pub written : text ≡ as_wanted c.json (named_by symbols lines)

-- no schedule of the tree has the event; or no space stands at the path in the settled tree; and the end that says so
abbrev pub IsNowhere : Space → List ℕ → Option ℕ → End → Type 0
IsNowhere root path (Some k) end = NeverHappens root path (k - 1) × (end ≡ NoEvent)
IsNowhere root path None end = (at path (settle_tree root) ≡ None) × (end ≡ NoSpace)

-- the moment that is asked for never comes, and this end says so; to other questions there is always an answer
abbrev pub NeverComes : Space → Question → End → Type 0
NeverComes root (at_moment m bytes) end = IsNowhere root m.path m.event end
NeverComes root (trace_of path from to) end = ⊥
NeverComes root why end = ⊥

-- How the question of a command is answered, of a tree: the whole text is written; or the moment never comes, and nothing is written; or a fault stopped the text before
-- its end; or memory ran out before it, or behind some first bytes of it.
abbrev pub Explains : Space → Command → Option (List Symbol) → Output → End → Type 0
Explains root c symbols out end =
    ((end ≡ Shown) × (text : List ℕ) × Shows root c symbols text × Wrote out text)
    ⊎ (NeverComes root c.question end × IsUntouched out)
    ⊎ ((end ≡ Failed WriteFault) × (text : List ℕ) × Shows root c symbols text × StopsWithin out text)
    ⊎ ((end ≡ Failed NoMemory) × (IsUntouched out ⊎ ((text : List ℕ) × Shows root c symbols text × WrotePrefix out text)))

-- how the writing of a text ends
abbrev pub ShowsWritten : Output → List ℕ → End → Type 0
ShowsWritten out text end =
    ((end ≡ Shown) × Wrote out text)
    ⊎ ((end ≡ Failed WriteFault) × StopsWithin out text)
    ⊎ ((end ≡ Failed NoMemory) × WrotePrefix out text)
