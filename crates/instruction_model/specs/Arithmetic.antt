-- What computations and comparisons make of two numbers of 32 bits (RISC-V Unprivileged ISA, RV32I, "Integer Computational
-- Instructions" and "Conditional Branches").
-- Source: RISC-V Unprivileged ISA, RV32I, "Integer Computational Instructions" and "Conditional Branches".
use Rattle.std.specs.Prelude.{ℕ, ◌+◌, ◌*◌, ◌-◌, ◌/◌, ◌%◌, ◌^◌, ◌==◌, Bool, not, nat_lt, if◌then◌else◌, bit_and, bit_or, bit_xor, ℤ, pos, negsuc, int_lt}
use Rattle.instruction_model.specs.declared.Comparison.{Comparison}
use Rattle.instruction_model.specs.declared.Comparison.TheVariants.{Beq, Bne, Blt, Bge, Bltu, Bgeu}
use Rattle.instruction_model.specs.declared.Operation.{Operation}
use Rattle.instruction_model.specs.declared.Operation.TheVariants.{Add, Sub, Sll, Slt, Sltu, Xor, Srl, Sra, Or, And}

-- the integer whose two's complement a number is: from 2 ^ 31 on it stands for itself less 2 ^ 32
abbrev pub signed_value : ℕ → ℤ
signed_value a = if nat_lt a (2 ^ 31) then pos a else negsuc (2 ^ 32 - 1 - a)

abbrev pub is_less : ℕ → ℕ → Bool
is_less a b = int_lt (signed_value a) (signed_value b)

-- a shift to the right that keeps the sign: of a negative number the complement is shifted
abbrev pub arithmetic_shift : ℕ → ℕ → ℕ
arithmetic_shift a by = if nat_lt a (2 ^ 31) then a / 2 ^ by else 2 ^ 32 - 1 - (2 ^ 32 - 1 - a) / 2 ^ by

abbrev pub one_if : Bool → ℕ
one_if b = if b then 1 else 0

-- a shift uses the low five bits of the second number
abbrev pub operation_result : Operation → ℕ → ℕ → ℕ
operation_result Add a b = (a + b) % 2 ^ 32
operation_result Sub a b = (a + (2 ^ 32 - b)) % 2 ^ 32
operation_result Sll a b = a * 2 ^ (b % 32) % 2 ^ 32
operation_result Slt a b = one_if (is_less a b)
operation_result Sltu a b = one_if (nat_lt a b)
operation_result Xor a b = bit_xor a b
operation_result Srl a b = a / 2 ^ (b % 32)
operation_result Sra a b = arithmetic_shift a (b % 32)
operation_result Or a b = bit_or a b
operation_result And a b = bit_and a b

abbrev pub compares : Comparison → ℕ → ℕ → Bool
compares Beq a b = a == b
compares Bne a b = not (a == b)
compares Blt a b = is_less a b
compares Bge a b = not (is_less a b)
compares Bltu a b = nat_lt a b
compares Bgeu a b = not (nat_lt a b)
