-- Instructions as text, as the assembler of sources takes them.
-- Source: RISC-V Assembly Programmer's Manual, for operands and their order.
-- Our choice: that the target of a branch or a jump is its address; an address, and an upper immediate, is written in eight hexadecimal digits.
use Rattle.std.specs.Prelude.{ℕ, ◌+◌, ◌-◌, ◌/◌, ◌%◌, ◌^◌, ◌==◌, nat_lt, Bool, true, false, List, [], ◌∷◌, ◌++◌, Option, Some, None, codes, get_or, if◌then◌else◌}
use Rattle.std.specs.Fmt.{decimal}
use Rattle.memory_model.specs.Memory.{Memory, byte_at, may_fetch, number_from}
use Rattle.memory_model.specs.declared.Width.{Width}
use Rattle.memory_model.specs.declared.Width.TheVariants.{One, Two, Four}
use Rattle.instruction_model.specs.declared.Comparison.{Comparison}
use Rattle.instruction_model.specs.declared.Comparison.TheVariants.{Beq, Bne, Blt, Bge, Bltu, Bgeu}
use Rattle.instruction_model.specs.declared.LoadKind.{LoadKind}
use Rattle.instruction_model.specs.declared.LoadKind.TheVariants.{Lb, Lh, Lw, Lbu, Lhu}
use Rattle.instruction_model.specs.declared.Operation.{Operation}
use Rattle.instruction_model.specs.declared.Operation.TheVariants.{Add, Sub, Sll, Slt, Sltu, Xor, Srl, Sra, Or, And}
use Rattle.instruction_model.specs.declared.Instruction.{Instruction}
use Rattle.instruction_model.specs.declared.Instruction.TheVariants.{Lui, Auipc, Jal, Jalr, Branch, Load, Store, OperateImmediate, Operate, Fence, Ecall, Ebreak}
use Rattle.instruction_model.specs.Instruction.{instruction_of}
use Rattle.source_model.specs.RegisterNames.{register_names}
use Rattle.space_model.specs.Space.{Top}
use Rattle.report_model.specs.Report.{hex8}

-- a register by its name
abbrev pub register_name : ℕ → List ℕ
register_name n = get_or register_names n []

abbrev pub operation_name : Operation → List ℕ
operation_name Add = codes "add"
operation_name Sub = codes "sub"
operation_name Sll = codes "sll"
operation_name Slt = codes "slt"
operation_name Sltu = codes "sltu"
operation_name Xor = codes "xor"
operation_name Srl = codes "srl"
operation_name Sra = codes "sra"
operation_name Or = codes "or"
operation_name And = codes "and"

-- with an immediate; no instruction subtracts one
abbrev pub immediate_name : Operation → List ℕ
immediate_name Add = codes "addi"
immediate_name Sub = codes "subi"
immediate_name Sll = codes "slli"
immediate_name Slt = codes "slti"
immediate_name Sltu = codes "sltiu"
immediate_name Xor = codes "xori"
immediate_name Srl = codes "srli"
immediate_name Sra = codes "srai"
immediate_name Or = codes "ori"
immediate_name And = codes "andi"

abbrev pub load_name : LoadKind → List ℕ
load_name Lb = codes "lb"
load_name Lh = codes "lh"
load_name Lw = codes "lw"
load_name Lbu = codes "lbu"
load_name Lhu = codes "lhu"

abbrev pub store_name : Width → List ℕ
store_name One = codes "sb"
store_name Two = codes "sh"
store_name Four = codes "sw"

abbrev pub branch_name : Comparison → List ℕ
branch_name Beq = codes "beq"
branch_name Bne = codes "bne"
branch_name Blt = codes "blt"
branch_name Bge = codes "bge"
branch_name Bltu = codes "bltu"
branch_name Bgeu = codes "bgeu"

-- a number of 32 bits with its sign
abbrev pub signed_text : ℕ → List ℕ
signed_text n = if nat_lt n (2 ^ 31) then decimal n else 45 ∷ decimal (2 ^ 32 - n)

abbrev pub hex_text : ℕ → List ℕ
hex_text n = codes "0x" ++ hex8 n

-- a name and two operands, a comma between them
abbrev pub two_operands : List ℕ → List ℕ → List ℕ → List ℕ
two_operands name a b = name ++ 32 ∷ (a ++ (codes ", " ++ b))

abbrev pub three_operands : List ℕ → List ℕ → List ℕ → List ℕ → List ℕ
three_operands name a b c = name ++ 32 ∷ (a ++ (codes ", " ++ (b ++ (codes ", " ++ c))))

-- a number, and a register in parentheses
abbrev pub address_text : ℕ → ℕ → List ℕ
address_text n a = signed_text n ++ 40 ∷ (register_name a ++ 41 ∷ [])

-- so far from the instruction
abbrev pub target_text : ℕ → ℕ → List ℕ
target_text pc n = hex_text ((pc + n) % 2 ^ 32)

-- the instruction at an address
abbrev pub instruction_text : ℕ → Instruction → List ℕ
instruction_text pc (Lui r n) = two_operands (codes "lui") (register_name r) (hex_text (n / 2 ^ 12))
instruction_text pc (Auipc r n) = two_operands (codes "auipc") (register_name r) (hex_text (n / 2 ^ 12))
instruction_text pc (Jal r n) = two_operands (codes "jal") (register_name r) (target_text pc n)
instruction_text pc (Jalr r a n) = two_operands (codes "jalr") (register_name r) (address_text n a)
instruction_text pc (Branch c a b n) = three_operands (branch_name c) (register_name a) (register_name b) (target_text pc n)
instruction_text pc (Load k r a n) = two_operands (load_name k) (register_name r) (address_text n a)
instruction_text pc (Store width a b n) = two_operands (store_name width) (register_name b) (address_text n a)
instruction_text pc (OperateImmediate o r a n) = three_operands (immediate_name o) (register_name r) (register_name a) (signed_text n)
instruction_text pc (Operate o r a b) = three_operands (operation_name o) (register_name r) (register_name a) (register_name b)
instruction_text pc Fence = codes "fence"
instruction_text pc Ecall = codes "ecall"
instruction_text pc Ebreak = codes "ebreak"

-- the word at an address of a memory, where it can be fetched
abbrev pub word_in : Memory → ℕ → Option ℕ
word_in m pc = if pc % 4 == 0 then (if may_fetch m pc then Some (number_from (byte_at m) Four pc) else None) else None

-- the instruction that a word spells, where there is a word and it spells one
abbrev pub spelled : Option ℕ → Option Instruction
spelled None = None
spelled (Some word) = instruction_of word

-- what stands at an address of a memory, where an instruction can be fetched there
abbrev pub instruction_in : Memory → ℕ → Option Instruction
instruction_in m pc = spelled (word_in m pc)

-- and at pc
abbrev pub instruction_at_pc : Top → Option Instruction
instruction_at_pc t = instruction_in t.memory t.registers.pc

-- an instruction is a call
abbrev pub is_call : Option Instruction → Bool
is_call None = false
is_call (Some Ecall) = true
is_call (Some other) = false

-- a space before it; nothing where there is none
abbrev pub instruction_part : ℕ → Option Instruction → List ℕ
instruction_part pc None = []
instruction_part pc (Some i) = 32 ∷ instruction_text pc i
