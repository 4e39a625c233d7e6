-- The statements: their first words, what follows each, and what it does.
-- Source: RISC-V Unprivileged ISA, RV32I, the names of instructions; RISC-V Assembly Programmer's Manual, for operands and their order.
-- Our choice: the directives, that `li` is always two words, and that a register's fault is named before a number's.
use Rattle.std.specs.Prelude.{ℕ, ◌+◌, ◌*◌, ◌/◌, ◌%◌, ◌-◌, ◌^◌, ◌&&◌, ◌||◌, Bool, true, false, List, [], ◌∷◌, ◌++◌, map, replicate, filter_map, Option, Some, is_none, option_map, Ok, Err, if◌then◌else◌, codes}
use Rattle.std.specs.Int.{w32, to_le_bytes}
use Rattle.std.specs.List.{list_any, list_all}
use Rattle.memory_model.specs.declared.Width.TheVariants.{One, Two, Four}
use Rattle.instruction_model.specs.declared.Comparison.TheVariants.{Beq, Bne, Blt, Bge, Bltu, Bgeu}
use Rattle.instruction_model.specs.declared.LoadKind.TheVariants.{Lb, Lh, Lw, Lbu, Lhu}
use Rattle.instruction_model.specs.declared.Operation.TheVariants.{Add, Sub, Sll, Slt, Sltu, Xor, Srl, Sra, Or, And}
use Rattle.instruction_model.specs.declared.Instruction.{Instruction}
use Rattle.instruction_model.specs.declared.Instruction.TheVariants.{Lui, Auipc, Jal, Jalr, Branch, Load, Store, OperateImmediate, Operate, Fence, Ecall, Ebreak}
use Rattle.image_model.specs.declared.format.Format.TheVariants.{Dti2}
use Rattle.instruction_model.specs.Encoding.{word_of}
use Rattle.instruction_model.specs.Word.{sign_extended}
use Rattle.source_model.specs.declared.error.AsmErrorKind.TheVariants as kinds
use Rattle.source_model.specs.Ascii.{is_letter, is_digit}
use Rattle.source_model.specs.Numeral.{number_in, natural_in}
use Rattle.source_model.specs.RegisterNames.{register_in}
use Rattle.source_model.specs.Meaning.{Value, number, label, distance, Effect, bytes, segment, entry, stack, format, Read}

-- ---- operands

-- a mark, or a word: whether it is to be a register, and the value that it has
pub data Part : Type 0 where
  mark : ℕ → Part
  word : Bool → (List ℕ → Option Value) → Part

abbrev pub comma : Part
comma = mark 44

abbrev pub left : Part
left = mark 40

abbrev pub right : Part
right = mark 41

abbrev pub register : Part
register = word true (λ w. option_map (λ n. number n) (register_in w))

-- a number from minus the first to the second
abbrev pub field : ℕ → ℕ → Part
field below above = word false (λ w. option_map (λ n. number n) (number_in below above w))

-- a number from 0 on
abbrev pub natural : Part
natural = word false (λ w. option_map (λ n. number n) (natural_in w))

-- letters and digits, a letter first
abbrev pub is_label : List ℕ → Bool
is_label [] = false
is_label (b ∷ bs) = is_letter b && list_all (λ c. is_letter c || is_digit c) bs

abbrev pub value_in : List ℕ → Option Value
value_in w = if is_label w then Some (label w) else option_map (λ n. number n) (number_in (2 ^ 31) (2 ^ 32 - 1) w)

-- a label or a number of 32 bits
abbrev pub value : Part
value = word false value_in

-- the distance to it
abbrev pub target : ℕ → Part
target reach = word false (λ w. option_map (distance reach) (value_in w))

-- of each word whether it is to be a register, and the value that it has
abbrev pub Operands : Type 0
Operands = List (Bool × Option Value)

-- what these operands ask for, or the first kind of fault
abbrev pub statement_of : ((ℕ → ℕ) → Effect) → Operands → Read
statement_of effect os =
    if list_any (λ o. o.0 && is_none o.1) os then Err kinds.Register
    else if list_any (λ o. is_none o.1) os then Err kinds.Number
    else Ok (record { values = filter_map (λ o. o.1) os; effect = effect })

-- ---- what statements do

-- a first word, what follows it, and what it does where the n-th word behind it, counted from 0, is worth so much
pub record Form : Type 0 where
  pub name : List ℕ
  pub parts : List Part
  pub effect : (ℕ → ℕ) → Effect

-- forms that differ by one thing
abbrev pub forms_of : {A : Type 0} → List Part → (A → (ℕ → ℕ) → Effect) → List (List ℕ × A) → List Form
forms_of parts effect names = map (λ n. record { name = n.0; parts = parts; effect = effect n.1 }) names

abbrev pub instruction_bytes : Instruction → List ℕ
instruction_bytes i = to_le_bytes w32 (word_of i)

abbrev pub instruction : Instruction → Effect
instruction i = bytes (instruction_bytes i)

-- a number from -2,048 to 2,047, and a register in parentheses
abbrev pub address : List Part
address = field 2048 2047 ∷ left ∷ register ∷ right ∷ []

abbrev pub instructions : List Form
instructions =
    forms_of (register ∷ comma ∷ register ∷ comma ∷ register ∷ []) (λ o v. instruction (Operate o (v 0) (v 1) (v 2)))
    ((codes "add", Add) ∷ (codes "sub", Sub) ∷ (codes "sll", Sll) ∷ (codes "slt", Slt) ∷ (codes "sltu", Sltu)
    ∷ (codes "xor", Xor) ∷ (codes "srl", Srl) ∷ (codes "sra", Sra) ∷ (codes "or", Or) ∷ (codes "and", And) ∷ [])
    ++ forms_of (register ∷ comma ∷ register ∷ comma ∷ field 2048 2047 ∷ []) (λ o v. instruction (OperateImmediate o (v 0) (v 1) (v 2)))
    ((codes "addi", Add) ∷ (codes "slti", Slt) ∷ (codes "sltiu", Sltu) ∷ (codes "xori", Xor) ∷ (codes "ori", Or) ∷ (codes "andi", And) ∷ [])
    ++ forms_of (register ∷ comma ∷ register ∷ comma ∷ field 0 31 ∷ []) (λ o v. instruction (OperateImmediate o (v 0) (v 1) (v 2)))
    ((codes "slli", Sll) ∷ (codes "srli", Srl) ∷ (codes "srai", Sra) ∷ [])
    ++ forms_of (register ∷ comma ∷ address) (λ k v. instruction (Load k (v 0) (v 2) (v 1)))
    ((codes "lb", Lb) ∷ (codes "lh", Lh) ∷ (codes "lw", Lw) ∷ (codes "lbu", Lbu) ∷ (codes "lhu", Lhu) ∷ [])
    ++ forms_of (register ∷ comma ∷ address) (λ width v. instruction (Store width (v 2) (v 0) (v 1)))
    ((codes "sb", One) ∷ (codes "sh", Two) ∷ (codes "sw", Four) ∷ [])
    ++ forms_of (register ∷ comma ∷ register ∷ comma ∷ target (2 ^ 12) ∷ []) (λ c v. instruction (Branch c (v 0) (v 1) (v 2)))
    ((codes "beq", Beq) ∷ (codes "bne", Bne) ∷ (codes "blt", Blt) ∷ (codes "bge", Bge) ∷ (codes "bltu", Bltu) ∷ (codes "bgeu", Bgeu) ∷ [])
    ++ record { name = codes "jalr"; parts = register ∷ comma ∷ address; effect = λ v. instruction (Jalr (v 0) (v 2) (v 1)) }
    ∷ record { name = codes "jal"; parts = register ∷ comma ∷ target (2 ^ 20) ∷ []; effect = λ v. instruction (Jal (v 0) (v 1)) }
    ∷ record { name = codes "lui"; parts = register ∷ comma ∷ field 0 (2 ^ 20 - 1) ∷ []; effect = λ v. instruction (Lui (v 0) (4096 * v 1)) }
    ∷ record { name = codes "auipc"; parts = register ∷ comma ∷ field 0 (2 ^ 20 - 1) ∷ []; effect = λ v. instruction (Auipc (v 0) (4096 * v 1)) }
    ∷ forms_of [] (λ i v. instruction i) ((codes "fence", Fence) ∷ (codes "ecall", Ecall) ∷ (codes "ebreak", Ebreak) ∷ [])

-- the nearest multiple of 4,096 that is at most 2,048 above, modulo 2 ^ 32
abbrev pub upper_part : ℕ → ℕ
upper_part v = (v + 0x800) / 0x1000 % 2 ^ 20 * 0x1000

-- what is left of it, from -2,048 to 2,047
abbrev pub lower_part : ℕ → ℕ
lower_part v = sign_extended 12 (v % 0x1000)

-- two instructions, whatever the number
abbrev pub load_immediate : ℕ → ℕ → Effect
load_immediate rd n = bytes (instruction_bytes (Lui rd (upper_part n)) ++ instruction_bytes (OperateImmediate Add rd rd (lower_part n)))

-- what is no instruction of the listing
abbrev pub directives : List Form
directives =
    record { name = codes "li"; parts = register ∷ comma ∷ value ∷ []; effect = λ v. load_immediate (v 0) (v 1) }
    ∷ record { name = codes ".segment"; parts = field 0 (2 ^ 32 - 1) ∷ natural ∷ []; effect = λ v. segment (v 0) (v 1) }
    ∷ record { name = codes ".dti2"; parts = []; effect = λ v. format Dti2 }
    ∷ record { name = codes ".entry"; parts = value ∷ []; effect = λ v. entry (v 0) }
    ∷ record { name = codes ".stack"; parts = value ∷ []; effect = λ v. stack (v 0) }
    ∷ record { name = codes ".word"; parts = value ∷ []; effect = λ v. bytes (to_le_bytes w32 (v 0)) }
    ∷ record { name = codes ".byte"; parts = field 0 255 ∷ []; effect = λ v. bytes (v 0 ∷ []) }
    ∷ record { name = codes ".zero"; parts = natural ∷ []; effect = λ v. bytes (replicate (v 0) 0) }
    ∷ []
