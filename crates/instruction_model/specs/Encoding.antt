-- The word of an instruction (RISC-V Unprivileged ISA, RV32I, "Base Instruction Formats", "Immediate Encoding Variants" and the
-- instruction set listing). Many words spell FENCE; its word is that of a fence over all accesses.
-- Source: RISC-V Unprivileged ISA, "RV32I Base Instruction Set" of the instruction set listings, and RV32I, "Base Instruction Formats".
-- Our choice: the one word of FENCE, whose sets are all.
use Rattle.std.specs.Prelude.{ℕ, ◌+◌, ◌*◌, ◌/◌, ◌%◌, ◌^◌}
use Rattle.memory_model.specs.declared.Width.{Width}
use Rattle.memory_model.specs.declared.Width.TheVariants.{One, Two, Four}
use Rattle.instruction_model.specs.declared.Comparison.{Comparison}
use Rattle.instruction_model.specs.declared.Comparison.TheVariants.{Beq, Bne, Blt, Bge, Bltu, Bgeu}
use Rattle.instruction_model.specs.declared.LoadKind.{LoadKind}
use Rattle.instruction_model.specs.declared.LoadKind.TheVariants.{Lb, Lh, Lw, Lbu, Lhu}
use Rattle.instruction_model.specs.declared.Operation.{Operation}
use Rattle.instruction_model.specs.declared.Operation.TheVariants.{Add, Sub, Sll, Slt, Sltu, Xor, Srl, Sra, Or, And}
use Rattle.instruction_model.specs.declared.Instruction.{Instruction}
use Rattle.instruction_model.specs.declared.Instruction.TheVariants.{Lui, Auipc, Jal, Jalr, Branch, Load, Store, OperateImmediate, Operate, Fence, Ecall, Ebreak}

-- opcode, rd, funct3, rs1, rs2 and funct7, from the lowest bit on
abbrev pub r_form : ℕ → ℕ → ℕ → ℕ → ℕ → ℕ → ℕ
r_form opcode rd funct3 rs1 rs2 funct7 = opcode + 2 ^ 7 * rd + 2 ^ 12 * funct3 + 2 ^ 15 * rs1 + 2 ^ 20 * rs2 + 2 ^ 25 * funct7

-- opcode, rd, funct3, rs1 and twelve bits
abbrev pub i_form : ℕ → ℕ → ℕ → ℕ → ℕ → ℕ
i_form opcode rd funct3 rs1 v = opcode + 2 ^ 7 * rd + 2 ^ 12 * funct3 + 2 ^ 15 * rs1 + 2 ^ 20 * (v % 2 ^ 12)

-- bits 4 to 0 stand in the place of rd, bits 11 to 5 in that of funct7
abbrev pub s_form : ℕ → ℕ → ℕ → ℕ → ℕ
s_form funct3 rs1 rs2 v = r_form 0b0100011 (v % 2 ^ 5) funct3 rs1 rs2 (v / 2 ^ 5 % 2 ^ 7)

-- bits 4 to 1 and 11 stand in the place of rd, bits 12 and 10 to 5 in that of funct7
abbrev pub b_form : ℕ → ℕ → ℕ → ℕ → ℕ
b_form funct3 rs1 rs2 v = r_form 0b1100011 (2 * (v / 2 % 2 ^ 4) + v / 2 ^ 11 % 2) funct3 rs1 rs2 (2 ^ 6 * (v / 2 ^ 12 % 2) + v / 2 ^ 5 % 2 ^ 6)

-- opcode, rd and a multiple of 4,096
abbrev pub u_form : ℕ → ℕ → ℕ → ℕ
u_form opcode rd v = opcode + 2 ^ 7 * rd + v

-- rd, and above it bits 19 to 12, 11, 10 to 1 and 20
abbrev pub j_form : ℕ → ℕ → ℕ
j_form rd v = 0b1101111 + 2 ^ 7 * rd + 2 ^ 12 * (v / 2 ^ 12 % 2 ^ 8) + 2 ^ 20 * (v / 2 ^ 11 % 2) + 2 ^ 21 * (v / 2 % 2 ^ 10) + 2 ^ 31 * (v / 2 ^ 20 % 2)

abbrev pub operation_funct3 : Operation → ℕ
operation_funct3 Add = 0b000
operation_funct3 Sub = 0b000
operation_funct3 Sll = 0b001
operation_funct3 Slt = 0b010
operation_funct3 Sltu = 0b011
operation_funct3 Xor = 0b100
operation_funct3 Srl = 0b101
operation_funct3 Sra = 0b101
operation_funct3 Or = 0b110
operation_funct3 And = 0b111

abbrev pub operation_funct7 : Operation → ℕ
operation_funct7 Sub = 0b0100000
operation_funct7 Sra = 0b0100000
operation_funct7 Add = 0
operation_funct7 Sll = 0
operation_funct7 Slt = 0
operation_funct7 Sltu = 0
operation_funct7 Xor = 0
operation_funct7 Srl = 0
operation_funct7 Or = 0
operation_funct7 And = 0

abbrev pub comparison_funct3 : Comparison → ℕ
comparison_funct3 Beq = 0b000
comparison_funct3 Bne = 0b001
comparison_funct3 Blt = 0b100
comparison_funct3 Bge = 0b101
comparison_funct3 Bltu = 0b110
comparison_funct3 Bgeu = 0b111

abbrev pub load_funct3 : LoadKind → ℕ
load_funct3 Lb = 0b000
load_funct3 Lh = 0b001
load_funct3 Lw = 0b010
load_funct3 Lbu = 0b100
load_funct3 Lhu = 0b101

abbrev pub store_funct3 : Width → ℕ
store_funct3 One = 0b000
store_funct3 Two = 0b001
store_funct3 Four = 0b010

-- a shift's amount stands where a second register would; of a subtraction there is no such word
abbrev pub immediate_word : Operation → ℕ → ℕ → ℕ → ℕ
immediate_word Sll rd rs1 v = r_form 0b0010011 rd 0b001 rs1 v 0b0000000
immediate_word Srl rd rs1 v = r_form 0b0010011 rd 0b101 rs1 v 0b0000000
immediate_word Sra rd rs1 v = r_form 0b0010011 rd 0b101 rs1 v 0b0100000
immediate_word Add rd rs1 v = i_form 0b0010011 rd 0b000 rs1 v
immediate_word Sub rd rs1 v = i_form 0b0010011 rd 0b000 rs1 v
immediate_word Slt rd rs1 v = i_form 0b0010011 rd 0b010 rs1 v
immediate_word Sltu rd rs1 v = i_form 0b0010011 rd 0b011 rs1 v
immediate_word Xor rd rs1 v = i_form 0b0010011 rd 0b100 rs1 v
immediate_word Or rd rs1 v = i_form 0b0010011 rd 0b110 rs1 v
immediate_word And rd rs1 v = i_form 0b0010011 rd 0b111 rs1 v

unfoldable pub word_of : Instruction → ℕ
word_of (Lui r v) = u_form 0b0110111 r v
word_of (Auipc r v) = u_form 0b0010111 r v
word_of (Jal r v) = j_form r v
word_of (Jalr r a v) = i_form 0b1100111 r 0b000 a v
word_of (Branch c a b v) = b_form (comparison_funct3 c) a b v
word_of (Load k r a v) = i_form 0b0000011 r (load_funct3 k) a v
word_of (Store width a b v) = s_form (store_funct3 width) a b v
word_of (OperateImmediate o r a v) = immediate_word o r a v
word_of (Operate o r a b) = r_form 0b0110011 r (operation_funct3 o) a b (operation_funct7 o)
word_of Fence = 0x0ff0000f
word_of Ecall = 0x00000073
word_of Ebreak = 0x00100073
