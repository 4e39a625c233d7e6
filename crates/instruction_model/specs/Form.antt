-- The fields that instructions have: registers, and immediates that their format can hold (RISC-V Unprivileged ISA, RV32I,
-- "Immediate Encoding Variants").
-- Source: RISC-V Unprivileged ISA, RV32I, "Base Instruction Formats" and "Immediate Encoding Variants".
use Rattle.std.specs.Prelude.{◌≡◌, ℕ, ◌+◌, ◌-◌, ◌%◌, ◌^◌, ◌<◌}
use Rattle.instruction_model.specs.declared.Operation.{Operation}
use Rattle.instruction_model.specs.declared.Operation.TheVariants.{Add, Sub, Sll, Slt, Sltu, Xor, Srl, Sra, Or, And}
use Rattle.instruction_model.specs.declared.Instruction.{Instruction}
use Rattle.instruction_model.specs.declared.Instruction.TheVariants.{Lui, Auipc, Jal, Jalr, Branch, Load, Store, OperateImmediate, Operate, Fence, Ecall, Ebreak}

abbrev pub IsRegister : ℕ → Type 0
IsRegister r = r < 32

-- a number of 32 bits that is the two's complement of one of this many bits
abbrev pub IsSigned : ℕ → ℕ → Type 0
IsSigned bits v = (v < 2 ^ 32) × ((v + 2 ^ (bits - 1)) % 2 ^ 32 < 2 ^ bits)

-- a second number that an operation may have in a word: twelve bits with their sign, or the amount of a shift; there is no
-- subtraction of an immediate
abbrev pub IsImmediateOf : Operation → ℕ → Type 0
IsImmediateOf Add v = IsSigned 12 v
IsImmediateOf Sub v = ⊥
IsImmediateOf Sll v = v < 32
IsImmediateOf Slt v = IsSigned 12 v
IsImmediateOf Sltu v = IsSigned 12 v
IsImmediateOf Xor v = IsSigned 12 v
IsImmediateOf Srl v = v < 32
IsImmediateOf Sra v = v < 32
IsImmediateOf Or v = IsSigned 12 v
IsImmediateOf And v = IsSigned 12 v

-- an upper immediate is a multiple of 4,096, and those of jumps and branches are even
abbrev pub HasFields : Instruction → Type 0
HasFields (Lui r v) = IsRegister r × (v < 2 ^ 32) × (v % 2 ^ 12 ≡ 0)
HasFields (Auipc r v) = IsRegister r × (v < 2 ^ 32) × (v % 2 ^ 12 ≡ 0)
HasFields (Jal r v) = IsRegister r × IsSigned 21 v × (v % 2 ≡ 0)
HasFields (Jalr r a v) = IsRegister r × IsRegister a × IsSigned 12 v
HasFields (Branch c a b v) = IsRegister a × IsRegister b × IsSigned 13 v × (v % 2 ≡ 0)
HasFields (Load k r a v) = IsRegister r × IsRegister a × IsSigned 12 v
HasFields (Store width a b v) = IsRegister a × IsRegister b × IsSigned 12 v
HasFields (OperateImmediate o r a v) = IsRegister r × IsRegister a × IsImmediateOf o v
HasFields (Operate o r a b) = IsRegister r × IsRegister a × IsRegister b
HasFields Fence = Unit {0}
HasFields Ecall = Unit {0}
HasFields Ebreak = Unit {0}
