-- The first words of statements (RISC-V Unprivileged ISA, RV32I, instruction names in lower case; the others are directives).
-- Our choice: a restatement for proofs: first words as they are compared.
use Rattle.std.specs.Prelude.{ℕ, List, Option, Some, None, Result, if◌then◌else◌, codes}
use Rattle.memory_model.specs.declared.Width.TheVariants as widths
use Rattle.instruction_model.specs.declared.Comparison.TheVariants as comparisons
use Rattle.instruction_model.specs.declared.LoadKind.TheVariants as loads
use Rattle.instruction_model.specs.declared.Operation.TheVariants as operations
use Rattle.instruction_model.specs.declared.Instruction.TheVariants as instructions
use Rattle.source_model.specs.declared.error.AsmErrorKind.{AsmErrorKind}
use Rattle.source_model.specs.declared.error.AsmErrorKind.TheVariants as kinds
use Rattle.source_model.specs.declared.mnemonic.Mnemonic.{Mnemonic}
use Rattle.source_model.specs.declared.mnemonic.Mnemonic.TheVariants.{Operate, OperateImmediate, ShiftImmediate, Load, Store, Branch, Jalr, Jal, Lui, Auipc, Alone, LoadImmediate, Segment, Dti2, Entry, Stack, Word, Byte, Zero}
use Rattle.source_model.specs.Bytes.{same_text}
use Rattle.source_model.specs.Field.{or_fault}

-- computations over two registers
unfoldable pub operation_of : List ℕ → Option Mnemonic
operation_of word =
    if same_text word (codes "add") then Some (Operate operations.Add)
    else if same_text word (codes "sub") then Some (Operate operations.Sub)
    else if same_text word (codes "sll") then Some (Operate operations.Sll)
    else if same_text word (codes "slt") then Some (Operate operations.Slt)
    else if same_text word (codes "sltu") then Some (Operate operations.Sltu)
    else if same_text word (codes "xor") then Some (Operate operations.Xor)
    else if same_text word (codes "srl") then Some (Operate operations.Srl)
    else if same_text word (codes "sra") then Some (Operate operations.Sra)
    else if same_text word (codes "or") then Some (Operate operations.Or)
    else if same_text word (codes "and") then Some (Operate operations.And)
    else None

-- computations over a register and a number
unfoldable pub immediate_of : List ℕ → Option Mnemonic
immediate_of word =
    if same_text word (codes "addi") then Some (OperateImmediate operations.Add)
    else if same_text word (codes "slti") then Some (OperateImmediate operations.Slt)
    else if same_text word (codes "sltiu") then Some (OperateImmediate operations.Sltu)
    else if same_text word (codes "xori") then Some (OperateImmediate operations.Xor)
    else if same_text word (codes "ori") then Some (OperateImmediate operations.Or)
    else if same_text word (codes "andi") then Some (OperateImmediate operations.And)
    else if same_text word (codes "slli") then Some (ShiftImmediate operations.Sll)
    else if same_text word (codes "srli") then Some (ShiftImmediate operations.Srl)
    else if same_text word (codes "srai") then Some (ShiftImmediate operations.Sra)
    else None

-- loads and stores
unfoldable pub memory_of : List ℕ → Option Mnemonic
memory_of word =
    if same_text word (codes "lb") then Some (Load loads.Lb)
    else if same_text word (codes "lh") then Some (Load loads.Lh)
    else if same_text word (codes "lw") then Some (Load loads.Lw)
    else if same_text word (codes "lbu") then Some (Load loads.Lbu)
    else if same_text word (codes "lhu") then Some (Load loads.Lhu)
    else if same_text word (codes "sb") then Some (Store widths.One)
    else if same_text word (codes "sh") then Some (Store widths.Two)
    else if same_text word (codes "sw") then Some (Store widths.Four)
    else None

-- branches
unfoldable pub branch_of : List ℕ → Option Mnemonic
branch_of word =
    if same_text word (codes "beq") then Some (Branch comparisons.Beq)
    else if same_text word (codes "bne") then Some (Branch comparisons.Bne)
    else if same_text word (codes "blt") then Some (Branch comparisons.Blt)
    else if same_text word (codes "bge") then Some (Branch comparisons.Bge)
    else if same_text word (codes "bltu") then Some (Branch comparisons.Bltu)
    else if same_text word (codes "bgeu") then Some (Branch comparisons.Bgeu)
    else None

-- the other instructions
unfoldable pub other_of : List ℕ → Option Mnemonic
other_of word =
    if same_text word (codes "jalr") then Some Jalr
    else if same_text word (codes "jal") then Some Jal
    else if same_text word (codes "lui") then Some Lui
    else if same_text word (codes "auipc") then Some Auipc
    else if same_text word (codes "fence") then Some (Alone instructions.Fence)
    else if same_text word (codes "ecall") then Some (Alone instructions.Ecall)
    else if same_text word (codes "ebreak") then Some (Alone instructions.Ebreak)
    else None

-- what is no instruction
unfoldable pub directive_of : List ℕ → Option Mnemonic
directive_of word =
    if same_text word (codes "li") then Some LoadImmediate
    else if same_text word (codes ".segment") then Some Segment
    else if same_text word (codes ".dti2") then Some Dti2
    else if same_text word (codes ".entry") then Some Entry
    else if same_text word (codes ".stack") then Some Stack
    else if same_text word (codes ".word") then Some Word
    else if same_text word (codes ".byte") then Some Byte
    else if same_text word (codes ".zero") then Some Zero
    else None

abbrev pub or_else : {A : Type 0} → Option A → Option A → Option A
or_else (Some x) other = Some x
or_else None other = other

unfoldable pub mnemonic_of : List ℕ → Result Mnemonic AsmErrorKind
mnemonic_of word = or_fault kinds.Word (or_else (operation_of word) (or_else (immediate_of word) (or_else (memory_of word) (or_else (branch_of word) (or_else (other_of word) (directive_of word))))))
