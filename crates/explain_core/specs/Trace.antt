-- The own events of a space, as text: a line for each, with what it changed.
-- Our choice: the text. The names of calls are those of the kernel's manual, in lower case.
use Rattle.std.specs.Prelude.{ℕ, suc, ◌+◌, ◌%◌, ◌^◌, ◌==◌, nat_le, List, [], ◌∷◌, ◌++◌, Option, Some, None, codes, slice_index, if◌then◌else◌}
use Rattle.std.specs.Fmt.{decimal}
use Rattle.std.specs.List.{flat_map}
use Rattle.memory_model.specs.Memory.{Memory}
use Rattle.memory_model.specs.declared.Width.{Width}
use Rattle.memory_model.specs.declared.Width.TheVariants.{One, Two, Four}
use Rattle.instruction_model.specs.declared.Instruction.{Instruction}
use Rattle.instruction_model.specs.declared.Instruction.TheVariants.{Store, Ecall}
use Rattle.instruction_model.specs.Outcome.{Registers}
use Rattle.call_model.specs.declared.TheConstants.{PUT, GET, RET, CONSOLE_OUT, CONSOLE_IN, CLOCK, RANDOM, FORK, WAIT, TFORK, TJOIN, QSTART, QCOMMIT, FILE_NEW, FILE_PUT, FILE_GET, FILE_LENGTH, FILE_DELETE}
use Rattle.space_model.specs.declared.Status.{Status}
use Rattle.space_model.specs.declared.Status.TheVariants.{Running, Stopped}
use Rattle.space_model.specs.Space.{Top}
use Rattle.report_model.specs.Report.{hex8, path_text, stop_text}
use Rattle.event_laws.specs.OwnEvents.{OwnEvent}
use Rattle.explain_core.specs.Instructions.{instruction_at_pc, instruction_part, is_call, register_name}
use Rattle.explain_core.specs.Pages.{changed_pages}

-- the name of a call by its number
abbrev pub call_name : ℕ → List ℕ
call_name n =
    if n == PUT then codes "put"
    else if n == GET then codes "get"
    else if n == RET then codes "ret"
    else if n == CONSOLE_OUT then codes "console-out"
    else if n == CONSOLE_IN then codes "console-in"
    else if n == CLOCK then codes "clock"
    else if n == RANDOM then codes "random"
    else if n == FORK then codes "fork"
    else if n == WAIT then codes "wait"
    else if n == TFORK then codes "tfork"
    else if n == TJOIN then codes "tjoin"
    else if n == QSTART then codes "qstart"
    else if n == QCOMMIT then codes "qcommit"
    else if n == FILE_NEW then codes "fnew"
    else if n == FILE_PUT then codes "fput"
    else if n == FILE_GET then codes "fget"
    else if n == FILE_LENGTH then codes "flen"
    else if n == FILE_DELETE then codes "fdel"
    else codes "none"

-- the bytes that a store of a register writes
abbrev pub lowest_bytes : Width → ℕ → ℕ
lowest_bytes One n = n % 2 ^ 8
lowest_bytes Two n = n % 2 ^ 16
lowest_bytes Four n = n

-- what an instruction did beside registers: the number that was stored and its address; the name of the call and a0 after it
abbrev pub act_text : Registers → Registers → Option Instruction → List ℕ
act_text before after (Some (Store width a b n)) =
    codes " stores " ++ (hex8 (lowest_bytes width (slice_index before.x b)) ++ (codes " at " ++ hex8 ((slice_index before.x a + n) % 2 ^ 32)))
act_text before after (Some Ecall) = 32 ∷ (call_name (slice_index before.x 17) ++ (codes " a0 " ++ hex8 (slice_index after.x 10)))
act_text before after other = []

-- a register that has another value
abbrev pub change_text : ℕ → ℕ → ℕ → List ℕ
change_text n old new = codes " x" ++ (decimal n ++ 32 ∷ (register_name n ++ 32 ∷ (hex8 old ++ (codes " -> " ++ hex8 new))))

-- registers from one on, those that have another value
abbrev pub changes_text : ℕ → List ℕ → List ℕ → List ℕ
changes_text n [] news = []
changes_text n (old ∷ olds) [] = []
changes_text n (old ∷ olds) (new ∷ news) = (if old == new then [] else change_text n old new) ++ changes_text (suc n) olds news

-- what came of an event, by the status and the registers that it left: the cause with which the space has stopped, or what the instruction did
abbrev pub outcome_text : Registers → Option Instruction → Status → Registers → List ℕ
outcome_text before i Running after = act_text before after i ++ changes_text 0 before.x after.x
outcome_text before i (Stopped cause value) after = codes " stops " ++ stop_text (Stopped cause value)

-- an event by its name, and where it stood
abbrev pub place_text : List ℕ → ℕ → Registers → Option Instruction → List ℕ
place_text p number before i = path_text p ++ 58 ∷ (decimal number ++ (codes " pc " ++ (hex8 before.pc ++ instruction_part before.pc i)))

-- and what came of it
abbrev pub event_text : List ℕ → ℕ → Registers → Option Instruction → Status → Registers → List ℕ
event_text p number before i status after = place_text p number before i ++ outcome_text before i status after

abbrev pub event_line : List ℕ → ℕ → Registers → Option Instruction → Status → Registers → List ℕ
event_line p number before i status after = event_text p number before i status after ++ 10 ∷ []

-- ---- what a call has written

-- a page by its first address
abbrev pub page_text : ℕ → List ℕ
page_text address = codes " page " ++ hex8 address

-- the pages of which some byte is another than before, where there is a memory before
abbrev pub pages_text : Option Memory → Memory → List ℕ
pages_text None after = []
pages_text (Some before) after = flat_map page_text (changed_pages after before)

-- the memory before a call
abbrev pub calling_memory : Top → Option Memory
calling_memory t = if is_call (instruction_at_pc t) then Some t.memory else None

-- ---- a trace

-- an event, what came of it, and of a call the pages that it has changed
abbrev pub traced_line : List ℕ → ℕ → Registers → Option Instruction → Option Memory → Top → List ℕ
traced_line p number before i memory after = event_text p number before i after.status after.registers ++ (pages_text memory after.memory ++ 10 ∷ [])

-- of own events, of which k stand before, those whose numbers are at least `from`
abbrev pub trace_lines : List ℕ → ℕ → ℕ → List OwnEvent → List ℕ
trace_lines p from k [] = []
trace_lines p from k (e ∷ es) =
    (if nat_le from (suc k) then (let t = e.before in traced_line p (suc k) t.registers (instruction_at_pc t) (calling_memory t) e.after) else []) ++ trace_lines p from (suc k) es
