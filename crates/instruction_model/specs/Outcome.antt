-- What the instruction at pc does (RISC-V Unprivileged ISA, RV32I base integer instruction set; numbers of causes as in the
-- Privileged ISA, "Machine Cause").
-- Source: RISC-V Unprivileged ISA, RV32I; numbers of causes: RISC-V Privileged ISA, "Machine Cause".
-- Our choice: that misalignment is tested before access, and the value of each trap.
use Rattle.std.specs.Prelude.{ℕ, ◌+◌, ◌-◌, ◌%◌, ◌^◌, ◌==◌, Option, Some, None, Bool, List, slice_index, slice_set, if◌then◌else◌}
use Rattle.memory_model.specs.Memory.{Memory, byte_at, may_fetch, may_read, may_write, number_from, width_bytes}
use Rattle.memory_model.specs.declared.Width.{Width}
use Rattle.memory_model.specs.declared.Width.TheVariants.{One, Two, Four}
use Rattle.instruction_model.specs.Word.{sign_extended}
use Rattle.instruction_model.specs.Arithmetic.{operation_result, compares}
use Rattle.instruction_model.specs.Instruction.{instruction_of}
use Rattle.instruction_model.specs.declared.LoadKind.{LoadKind}
use Rattle.instruction_model.specs.declared.LoadKind.TheVariants.{Lb, Lh, Lw, Lbu, Lhu}
use Rattle.instruction_model.specs.declared.Instruction.{Instruction}
use Rattle.instruction_model.specs.declared.Instruction.TheVariants.{Lui, Auipc, Jal, Jalr, Branch, Load, Store, OperateImmediate, Operate, Fence, Ecall, Ebreak}

-- pc, and x0 to x31
pub record Registers : Type 0 where
  pub pc : ℕ
  pub x : List ℕ

-- what an instruction sees of memory: each byte, and what may be done at its address
pub record View : Type 0 where
  pub byte : ℕ → ℕ
  pub may_fetch : ℕ → Bool
  pub may_read : ℕ → Bool
  pub may_write : ℕ → Bool

-- a memory as instructions see it
abbrev pub view_of : Memory → View
view_of m = record { byte = byte_at m; may_fetch = may_fetch m; may_read = may_read m; may_write = may_write m }

pub data Outcome : Type 0 where
  -- other registers
  goes : Registers → Outcome
  -- other registers, and a number whose lowest bytes, as many as this width has, are stored at this address
  stores : Registers → ℕ → Width → ℕ → Outcome
  -- an ECALL, which changes nothing by itself
  calls : Outcome
  -- a trap of this cause with this value, which changes nothing
  traps : ℕ → ℕ → Outcome

abbrev pub register : Registers → ℕ → ℕ
register s r = slice_index s.x r

-- x0 stays 0
abbrev pub with_register : Registers → ℕ → ℕ → Registers
with_register s r v = record s { x = if r == 0 then s.x else slice_set s.x r v }

-- the address of the next instruction; addresses wrap
abbrev pub next_pc : Registers → ℕ
next_pc s = (s.pc + 4) % 2 ^ 32

-- the next instruction
abbrev pub onward : Registers → Registers
onward s = record s { pc = next_pc s }

-- the next instruction, with a result
abbrev pub results : Registers → ℕ → ℕ → Registers
results s r v = with_register (onward s) r v

-- an address relative to pc, or to a register; addresses wrap
abbrev pub offset : ℕ → ℕ → ℕ
offset base immediate = (base + immediate) % 2 ^ 32

-- a jump to a target, with registers that have the link: none is written where the target is no multiple of 4
abbrev pub jumps : Registers → ℕ → Outcome
jumps s target = if target % 4 == 0 then goes (record s { pc = target }) else traps 0 target

-- the address of the next instruction goes into a register
abbrev pub with_link : Registers → ℕ → Registers
with_link s r = with_register s r (next_pc s)

-- bit 0 cleared
abbrev pub even : ℕ → ℕ
even a = a - a % 2

abbrev pub branches : Bool → Registers → ℕ → Outcome
branches taken s target = if taken then jumps s target else goes (onward s)

abbrev pub loaded_width : LoadKind → Width
loaded_width Lb = One
loaded_width Lh = Two
loaded_width Lw = Four
loaded_width Lbu = One
loaded_width Lhu = Two

abbrev pub extension_of : LoadKind → ℕ → ℕ
extension_of Lb v = sign_extended 8 v
extension_of Lh v = sign_extended 16 v
extension_of Lw v = v
extension_of Lbu v = v
extension_of Lhu v = v

-- a load into x0 reads too
abbrev pub loads : LoadKind → View → Registers → ℕ → ℕ → Outcome
loads l m s r a =
    if a % width_bytes (loaded_width l) == 0 then
    (if m.may_read a then goes (results s r (extension_of l (number_from m.byte (loaded_width l) a)))
    else traps 5 a)
    else traps 4 a

abbrev pub writes : Width → View → Registers → ℕ → ℕ → Outcome
writes width m s a v =
    if a % width_bytes width == 0 then
    (if m.may_write a then stores (onward s) a width v
    else traps 7 a)
    else traps 6 a

abbrev pub perform : Instruction → View → Registers → Outcome
perform (Lui r v) m s = goes (results s r v)
perform (Auipc r v) m s = goes (results s r (offset s.pc v))
perform (Jal r v) m s = jumps (with_link s r) (offset s.pc v)
perform (Jalr r a v) m s = jumps (with_link s r) (even (offset (register s a) v))
perform (Branch c a b v) m s = branches (compares c (register s a) (register s b)) s (offset s.pc v)
perform (Load l r a v) m s = loads l m s r (offset (register s a) v)
perform (Store width a b v) m s = writes width m s (offset (register s a) v) (register s b)
perform (OperateImmediate o r a v) m s = goes (results s r (operation_result o (register s a) v))
perform (Operate o r a b) m s = goes (results s r (operation_result o (register s a) (register s b)))
perform Fence m s = goes (onward s)
perform Ecall m s = calls
perform Ebreak m s = traps 3 s.pc

abbrev pub perform_word : ℕ → Option Instruction → View → Registers → Outcome
perform_word w None m s = traps 2 w
perform_word w (Some i) m s = perform i m s

-- in this order: an address that is no multiple of 4, one that may not be fetched, a word that spells no instruction
unfoldable pub outcome : View → Registers → Outcome
outcome m s =
    if s.pc % 4 == 0 then
    (if m.may_fetch s.pc then perform_word (number_from m.byte Four s.pc) (instruction_of (number_from m.byte Four s.pc)) m s
    else traps 1 s.pc)
    else traps 0 s.pc
