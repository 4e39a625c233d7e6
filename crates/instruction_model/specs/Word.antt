-- The fields of an instruction word (RISC-V Unprivileged ISA, RV32I, "Base Instruction Formats" and "Immediate Encoding Variants").
-- Source: RISC-V Unprivileged ISA, RV32I, "Base Instruction Formats" and "Immediate Encoding Variants".
use Rattle.std.specs.Prelude.{ℕ, ◌+◌, ◌*◌, ◌-◌, ◌/◌, ◌%◌, ◌^◌, nat_lt, if◌then◌else◌}

-- bits 6 to 0
abbrev pub opcode : ℕ → ℕ
opcode w = w % 128

-- bits 11 to 7
abbrev pub rd : ℕ → ℕ
rd w = w / 2 ^ 7 % 32

-- bits 14 to 12
abbrev pub funct3 : ℕ → ℕ
funct3 w = w / 2 ^ 12 % 8

-- bits 19 to 15
abbrev pub rs1 : ℕ → ℕ
rs1 w = w / 2 ^ 15 % 32

-- bits 24 to 20
abbrev pub rs2 : ℕ → ℕ
rs2 w = w / 2 ^ 20 % 32

-- bits 31 to 25
abbrev pub funct7 : ℕ → ℕ
funct7 w = w / 2 ^ 25

-- a two's complement number of this many bits, as one of 32 bits
abbrev pub sign_extended : ℕ → ℕ → ℕ
sign_extended bits v = if nat_lt v (2 ^ (bits - 1)) then v else v + (2 ^ 32 - 2 ^ bits)

-- bits 31 to 20
abbrev pub immediate_i : ℕ → ℕ
immediate_i w = sign_extended 12 (w / 2 ^ 20)

-- bits 31 to 25 and 11 to 7
abbrev pub immediate_s : ℕ → ℕ
immediate_s w = sign_extended 12 (2 ^ 5 * (w / 2 ^ 25) + w / 2 ^ 7 % 2 ^ 5)

-- bits 31, 7, 30 to 25 and 11 to 8, and a zero
abbrev pub immediate_b : ℕ → ℕ
immediate_b w = sign_extended 13 (2 ^ 12 * (w / 2 ^ 31) + 2 ^ 11 * (w / 2 ^ 7 % 2) + 2 ^ 5 * (w / 2 ^ 25 % 2 ^ 6) + 2 * (w / 2 ^ 8 % 2 ^ 4))

-- bits 31 to 12, and twelve zeros
abbrev pub immediate_u : ℕ → ℕ
immediate_u w = 2 ^ 12 * (w / 2 ^ 12)

-- bits 31, 19 to 12, 20 and 30 to 21, and a zero
abbrev pub immediate_j : ℕ → ℕ
immediate_j w = sign_extended 21 (2 ^ 20 * (w / 2 ^ 31) + 2 ^ 12 * (w / 2 ^ 12 % 2 ^ 8) + 2 ^ 11 * (w / 2 ^ 20 % 2) + 2 * (w / 2 ^ 21 % 2 ^ 10))
