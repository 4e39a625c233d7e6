-- What is shown of a space, as text, line by line.
-- Our choice: the text. The names of registers are those of the RISC-V calling convention.
use Rattle.std.specs.Prelude.{ℕ, suc, List, [], ◌∷◌, ◌++◌, Option, Some, None, codes}
use Rattle.std.specs.Fmt.{decimal}
use Rattle.space_model.specs.declared.Status.{Status}
use Rattle.space_model.specs.declared.Status.TheVariants.{Running, Stopped}
use Rattle.space_model.specs.Space.{Space, Children, none, child, Top, top_of, children_of}
use Rattle.report_model.specs.Report.{hex8, path_text, stop_text}
use Rattle.explain_core.specs.Bytes.{bytes_text}
use Rattle.explain_core.specs.declared.bytes.Bytes.{Bytes}
use Rattle.explain_core.specs.Contents.{contents_text}
use Rattle.explain_core.specs.Instructions.{register_name, instruction_at_pc, instruction_part}

-- a space that runs, or the cause and the value with which it has stopped
abbrev pub status_text : Status → List ℕ
status_text Running = codes "running"
status_text (Stopped cause value) = stop_text (Stopped cause value)

abbrev pub limit_text : Option ℕ → List ℕ
limit_text None = codes "none"
limit_text (Some n) = decimal n

-- a word, what it says, and a line feed
abbrev pub line_of : List ℕ → List ℕ → List ℕ
line_of word says = word ++ 32 ∷ (says ++ 10 ∷ [])

-- pc, and the instruction there
abbrev pub pc_text : Top → List ℕ
pc_text t = codes "pc " ++ (hex8 t.registers.pc ++ (instruction_part t.registers.pc (instruction_at_pc t) ++ 10 ∷ []))

-- how it stands: its status, pc and the instruction there, and what it may take and has taken
abbrev pub state_text : Top → List ℕ
state_text t =
    line_of (codes "status") (status_text t.status)
    ++ (pc_text t ++ (line_of (codes "fuel") (decimal t.fuel) ++ (line_of (codes "limit") (limit_text t.limit) ++ line_of (codes "used") (decimal t.used))))

-- a register by its number and its name
abbrev pub register_text : ℕ → ℕ → List ℕ
register_text n value = 120 ∷ (decimal n ++ 32 ∷ (register_name n ++ 32 ∷ (hex8 value ++ 10 ∷ [])))

-- registers from one on
abbrev pub registers_text : ℕ → List ℕ → List ℕ
registers_text n [] = []
registers_text n (value ∷ values) = register_text n value ++ registers_text (suc n) values

-- of a space without its children, with the bytes that are wanted
abbrev pub top_text : Option Bytes → Top → List ℕ
top_text w t = state_text t ++ (registers_text 0 t.registers.x ++ (contents_text t.memory t.snapshot ++ bytes_text t.memory w))

-- a child by its number, and its status
abbrev pub child_text : ℕ → Space → List ℕ
child_text n s = let t = top_of s in codes "child " ++ (decimal n ++ 32 ∷ (status_text t.status ++ 10 ∷ []))

abbrev pub children_text : Children → List ℕ
children_text none = []
children_text (child n s rest) = child_text n s ++ children_text rest

-- of a space with its children, which stand in the order of their numbers
abbrev pub space_text : Option Bytes → Space → List ℕ
space_text w s = top_text w (top_of s) ++ children_text (children_of s)

-- a space just behind its own event of a number, from 1 on
abbrev pub event_text : Option Bytes → List ℕ → ℕ → Top → List ℕ
event_text w p number t = (codes "space " ++ (path_text p ++ (codes " event " ++ (decimal number ++ 10 ∷ [])))) ++ top_text w t

-- a space at the end of a run
abbrev pub end_text : Option Bytes → List ℕ → Space → List ℕ
end_text w p s = (codes "space " ++ (path_text p ++ codes " end\n")) ++ space_text w s
