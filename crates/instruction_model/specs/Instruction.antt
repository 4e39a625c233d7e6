-- The words that spell an instruction (RISC-V Unprivileged ISA, "RV32I Base Instruction Set" of the instruction set listings).
-- Source: RISC-V Unprivileged ISA, "RV32I Base Instruction Set" of the instruction set listings.
use Rattle.std.specs.Prelude.{◌≡◌, ℕ, ◌<◌, ◌^◌, ◌==◌, ◌&&◌, ◌⊎◌, Bool, true, List, [], ◌∷◌, Option, Some, None, if◌then◌else◌}
use Rattle.memory_model.specs.declared.Width.TheVariants.{One, Two, Four}
use Rattle.instruction_model.specs.declared.Comparison.TheVariants.{Beq, Bne, Blt, Bge, Bltu, Bgeu}
use Rattle.instruction_model.specs.declared.LoadKind.TheVariants.{Lb, Lh, Lw, Lbu, Lhu}
use Rattle.instruction_model.specs.declared.Operation.TheVariants.{Add, Sub, Sll, Slt, Sltu, Xor, Srl, Sra, Or, And}
use Rattle.instruction_model.specs.declared.Comparison.{Comparison}
use Rattle.instruction_model.specs.declared.LoadKind.{LoadKind}
use Rattle.instruction_model.specs.declared.Operation.{Operation}
use Rattle.memory_model.specs.declared.Width.{Width}
use Rattle.instruction_model.specs.declared.Instruction.{Instruction}
use Rattle.instruction_model.specs.declared.Instruction.TheVariants.{Lui, Auipc, Jal, Jalr, Branch, Load, Store, OperateImmediate, Operate, Fence, Ecall, Ebreak}
use Rattle.instruction_model.specs.Word.{opcode, rd, funct3, rs1, rs2, funct7, immediate_i, immediate_s, immediate_b, immediate_u, immediate_j}

-- which words a row of the listing takes: those with this opcode, with this opcode and funct3, with this opcode, funct3 and
-- funct7, or one word
pub data Form : Type 0 where
  by_opcode : ℕ → Form
  by_funct3 : ℕ → ℕ → Form
  by_funct7 : ℕ → ℕ → ℕ → Form
  by_word : ℕ → Form

abbrev pub takes : Form → ℕ → Bool
takes (by_opcode o) w = opcode w == o
takes (by_funct3 o f) w = (opcode w == o) && (funct3 w == f)
takes (by_funct7 o f g) w = (opcode w == o) && (funct3 w == f) && (funct7 w == g)
takes (by_word n) w = w == n

-- a row of the listing: the words that it takes, and the instruction that such a word spells
pub record Row : Type 0 where
  pub form : Form
  pub makes : ℕ → Instruction

abbrev pub row : Form → (ℕ → Instruction) → Row
row f m = record { form = f; makes = m }

abbrev pub branch : Comparison → ℕ → Instruction
branch c w = Branch c (rs1 w) (rs2 w) (immediate_b w)

abbrev pub load : LoadKind → ℕ → Instruction
load k w = Load k (rd w) (rs1 w) (immediate_i w)

abbrev pub store : Width → ℕ → Instruction
store width w = Store width (rs1 w) (rs2 w) (immediate_s w)

abbrev pub operate_immediate : Operation → ℕ → Instruction
operate_immediate o w = OperateImmediate o (rd w) (rs1 w) (immediate_i w)

-- the amount of a shift stands where a second register would
abbrev pub shift_immediate : Operation → ℕ → Instruction
shift_immediate o w = OperateImmediate o (rd w) (rs1 w) (rs2 w)

abbrev pub operate : Operation → ℕ → Instruction
operate o w = Operate o (rd w) (rs1 w) (rs2 w)

-- the forty rows
abbrev pub listing : List Row
listing =
    row (by_opcode 0b0110111) (λ w. Lui (rd w) (immediate_u w))
    ∷ row (by_opcode 0b0010111) (λ w. Auipc (rd w) (immediate_u w))
    ∷ row (by_opcode 0b1101111) (λ w. Jal (rd w) (immediate_j w))
    ∷ row (by_funct3 0b1100111 0b000) (λ w. Jalr (rd w) (rs1 w) (immediate_i w))
    ∷ row (by_funct3 0b1100011 0b000) (branch Beq)
    ∷ row (by_funct3 0b1100011 0b001) (branch Bne)
    ∷ row (by_funct3 0b1100011 0b100) (branch Blt)
    ∷ row (by_funct3 0b1100011 0b101) (branch Bge)
    ∷ row (by_funct3 0b1100011 0b110) (branch Bltu)
    ∷ row (by_funct3 0b1100011 0b111) (branch Bgeu)
    ∷ row (by_funct3 0b0000011 0b000) (load Lb)
    ∷ row (by_funct3 0b0000011 0b001) (load Lh)
    ∷ row (by_funct3 0b0000011 0b010) (load Lw)
    ∷ row (by_funct3 0b0000011 0b100) (load Lbu)
    ∷ row (by_funct3 0b0000011 0b101) (load Lhu)
    ∷ row (by_funct3 0b0100011 0b000) (store One)
    ∷ row (by_funct3 0b0100011 0b001) (store Two)
    ∷ row (by_funct3 0b0100011 0b010) (store Four)
    ∷ row (by_funct3 0b0010011 0b000) (operate_immediate Add)
    ∷ row (by_funct3 0b0010011 0b010) (operate_immediate Slt)
    ∷ row (by_funct3 0b0010011 0b011) (operate_immediate Sltu)
    ∷ row (by_funct3 0b0010011 0b100) (operate_immediate Xor)
    ∷ row (by_funct3 0b0010011 0b110) (operate_immediate Or)
    ∷ row (by_funct3 0b0010011 0b111) (operate_immediate And)
    ∷ row (by_funct7 0b0010011 0b001 0b0000000) (shift_immediate Sll)
    ∷ row (by_funct7 0b0010011 0b101 0b0000000) (shift_immediate Srl)
    ∷ row (by_funct7 0b0010011 0b101 0b0100000) (shift_immediate Sra)
    ∷ row (by_funct7 0b0110011 0b000 0b0000000) (operate Add)
    ∷ row (by_funct7 0b0110011 0b000 0b0100000) (operate Sub)
    ∷ row (by_funct7 0b0110011 0b001 0b0000000) (operate Sll)
    ∷ row (by_funct7 0b0110011 0b010 0b0000000) (operate Slt)
    ∷ row (by_funct7 0b0110011 0b011 0b0000000) (operate Sltu)
    ∷ row (by_funct7 0b0110011 0b100 0b0000000) (operate Xor)
    ∷ row (by_funct7 0b0110011 0b101 0b0000000) (operate Srl)
    ∷ row (by_funct7 0b0110011 0b101 0b0100000) (operate Sra)
    ∷ row (by_funct7 0b0110011 0b110 0b0000000) (operate Or)
    ∷ row (by_funct7 0b0110011 0b111 0b0000000) (operate And)
    ∷ row (by_funct3 0b0001111 0b000) (λ w. Fence)
    ∷ row (by_word 0x00000073) (λ w. Ecall)
    ∷ row (by_word 0x00100073) (λ w. Ebreak)
    ∷ []

-- what the first row that takes a word makes of it
abbrev pub first_of : List Row → ℕ → Option Instruction
first_of [] w = None
first_of (r ∷ rows) w = if takes r.form w then Some (r.makes w) else first_of rows w

-- the instruction that a word spells
unfoldable pub instruction_of : ℕ → Option Instruction
instruction_of w = first_of listing w

-- some word spells it
abbrev pub IsSpelled : Instruction → Type 0
IsSpelled i = (w : ℕ) × (w < 2 ^ 32) × (instruction_of w ≡ Some i)

abbrev pub SpelledAmong : List Row → ℕ → Instruction → Type 0
SpelledAmong [] w i = ⊥
SpelledAmong (r ∷ rows) w i = ((takes r.form w ≡ true) × (r.makes w ≡ i)) ⊎ SpelledAmong rows w i

-- some row takes the word and makes the instruction of it
unfoldable pub Spells : ℕ → Instruction → Type 0
Spells w i = SpelledAmong listing w i
