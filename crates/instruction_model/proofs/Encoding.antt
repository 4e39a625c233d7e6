-- The word of an instruction spells it.
use Rattle.std.proofs.Common.{◌≡◌, ℕ, ◌<◌, ◌^◌, ◌%◌, Some, arith, refl}
use Rattle.std.proofs.lemmas.Bool.Decides.{nat_tests}
use Rattle.memory_model.specs.declared.Width.{Width}
use Rattle.memory_model.specs.declared.Width.TheVariants.{One, Two, Four}
use Rattle.instruction_model.specs.declared.Comparison.{Comparison}
use Rattle.instruction_model.specs.declared.Comparison.TheVariants.{Beq, Bne, Blt, Bge, Bltu, Bgeu}
use Rattle.instruction_model.specs.declared.LoadKind.{LoadKind}
use Rattle.instruction_model.specs.declared.LoadKind.TheVariants.{Lb, Lh, Lw, Lbu, Lhu}
use Rattle.instruction_model.specs.declared.Operation.{Operation}
use Rattle.instruction_model.specs.declared.Operation.TheVariants.{Add, Sub, Sll, Slt, Sltu, Xor, Srl, Sra, Or, And}
use Rattle.instruction_model.specs.declared.Instruction.{Instruction}
use Rattle.instruction_model.specs.declared.Instruction.TheVariants.{Lui, Auipc, Jal, Jalr, Branch, Load, Store, OperateImmediate, Operate, Fence, Ecall, Ebreak}
use Rattle.instruction_model.specs.Word.{opcode, rd, funct3, rs1, rs2, funct7, immediate_i, immediate_s, immediate_b, immediate_u, immediate_j}
use Rattle.instruction_model.specs.Form.{HasFields, IsImmediateOf, IsSigned}
use Rattle.instruction_model.specs.Instruction.{instruction_of, IsSpelled}
use Rattle.instruction_model.specs.Encoding.{r_form, i_form, s_form, b_form, u_form, j_form, operation_funct3, operation_funct7, comparison_funct3, load_funct3, store_funct3, immediate_word, word_of}

-- ---- the numbers of the listing fit their fields

operation_funct3-fits : (o : Operation) → operation_funct3 o < 8
operation_funct3-fits Add = omega arith
operation_funct3-fits Sub = omega arith
operation_funct3-fits Sll = omega arith
operation_funct3-fits Slt = omega arith
operation_funct3-fits Sltu = omega arith
operation_funct3-fits Xor = omega arith
operation_funct3-fits Srl = omega arith
operation_funct3-fits Sra = omega arith
operation_funct3-fits Or = omega arith
operation_funct3-fits And = omega arith

operation_funct7-fits : (o : Operation) → operation_funct7 o < 128
operation_funct7-fits Add = omega arith
operation_funct7-fits Sub = omega arith
operation_funct7-fits Sll = omega arith
operation_funct7-fits Slt = omega arith
operation_funct7-fits Sltu = omega arith
operation_funct7-fits Xor = omega arith
operation_funct7-fits Srl = omega arith
operation_funct7-fits Sra = omega arith
operation_funct7-fits Or = omega arith
operation_funct7-fits And = omega arith

load_funct3-fits : (k : LoadKind) → load_funct3 k < 8
load_funct3-fits Lb = omega arith
load_funct3-fits Lh = omega arith
load_funct3-fits Lw = omega arith
load_funct3-fits Lbu = omega arith
load_funct3-fits Lhu = omega arith

store_funct3-fits : (width : Width) → store_funct3 width < 8
store_funct3-fits One = omega arith
store_funct3-fits Two = omega arith
store_funct3-fits Four = omega arith

comparison_funct3-fits : (c : Comparison) → comparison_funct3 c < 8
comparison_funct3-fits Beq = omega arith
comparison_funct3-fits Bne = omega arith
comparison_funct3-fits Blt = omega arith
comparison_funct3-fits Bge = omega arith
comparison_funct3-fits Bltu = omega arith
comparison_funct3-fits Bgeu = omega arith

-- ---- the fields of a form's word

-- a word of these fields
abbrev Has : ℕ → ℕ → ℕ → ℕ → ℕ → ℕ → ℕ → Type 0
Has w o d f a b g = (w < 2 ^ 32) × (opcode w ≡ o) × (funct3 w ≡ f) × (funct7 w ≡ g) × (rd w ≡ d) × (rs1 w ≡ a) × (rs2 w ≡ b)

r_form-has : (o d f a b g : ℕ) → o < 128 → d < 32 → f < 8 → a < 32 → b < 32 → g < 128 → Has (r_form o d f a b g) o d f a b g
r_form-has o d f a b g ho hd hf ha hb hg = (omega arith, omega arith, omega arith, omega arith, omega arith, omega arith, omega arith)

abbrev HasImmediate : ℕ → ℕ → ℕ → ℕ → ℕ → ℕ → Type 0
HasImmediate w o d f a v = (w < 2 ^ 32) × (opcode w ≡ o) × (funct3 w ≡ f) × (rd w ≡ d) × (rs1 w ≡ a) × (immediate_i w ≡ v)

i_form-has : (o d f a v : ℕ) → o < 128 → d < 32 → f < 8 → a < 32 → IsSigned 12 v → HasImmediate (i_form o d f a v) o d f a v
i_form-has o d f a v ho hd hf ha h = (omega arith, omega arith, omega arith, omega arith, omega arith, grind (arith, nat_tests))

s_form-immediate : (f a b v : ℕ) → f < 8 → a < 32 → b < 32 → IsSigned 12 v → immediate_s (s_form f a b v) ≡ v
s_form-immediate f a b v hf ha hb h = grind (arith, nat_tests)

b_form-immediate : (f a b v : ℕ) → f < 8 → a < 32 → b < 32 → IsSigned 13 v → v % 2 ≡ 0 → immediate_b (b_form f a b v) ≡ v
b_form-immediate f a b v hf ha hb h e = grind (arith, nat_tests)

abbrev HasUpper : ℕ → ℕ → ℕ → ℕ → Type 0
HasUpper w o d v = (w < 2 ^ 32) × (opcode w ≡ o) × (rd w ≡ d) × (immediate_u w ≡ v)

u_form-has : (o d v : ℕ) → o < 128 → d < 32 → v < 2 ^ 32 → v % 2 ^ 12 ≡ 0 → HasUpper (u_form o d v) o d v
u_form-has o d v ho hd hv h = (omega arith, omega arith, omega arith, omega arith)

abbrev HasJump : ℕ → ℕ → ℕ → Type 0
HasJump w d v = (w < 2 ^ 32) × (opcode w ≡ 0b1101111) × (rd w ≡ d) × (immediate_j w ≡ v)

j_form-has : (d v : ℕ) → d < 32 → IsSigned 21 v → v % 2 ≡ 0 → HasJump (j_form d v) d v
j_form-has d v hd h e = (omega arith, omega arith, omega arith, grind (arith, nat_tests))

-- ---- a word with an instruction's fields spells it

abbrev IsWordOf : ℕ → Instruction → Type 0
IsWordOf w i = (w < 2 ^ 32) × (instruction_of w ≡ Some i)

operate : (o : Operation) (w d a b : ℕ) → Has w 0b0110011 d (operation_funct3 o) a b (operation_funct7 o) → IsWordOf w (Operate o d a b)
unfolding instruction_of
operate Add w d a b h = (h.0, rw h.1 (rw h.2 (rw h.3 cc)))
operate Sub w d a b h = (h.0, rw h.1 (rw h.2 (rw h.3 cc)))
operate Sll w d a b h = (h.0, rw h.1 (rw h.2 (rw h.3 cc)))
operate Slt w d a b h = (h.0, rw h.1 (rw h.2 (rw h.3 cc)))
operate Sltu w d a b h = (h.0, rw h.1 (rw h.2 (rw h.3 cc)))
operate Xor w d a b h = (h.0, rw h.1 (rw h.2 (rw h.3 cc)))
operate Srl w d a b h = (h.0, rw h.1 (rw h.2 (rw h.3 cc)))
operate Sra w d a b h = (h.0, rw h.1 (rw h.2 (rw h.3 cc)))
operate Or w d a b h = (h.0, rw h.1 (rw h.2 (rw h.3 cc)))
operate And w d a b h = (h.0, rw h.1 (rw h.2 (rw h.3 cc)))

load : (k : LoadKind) (w d a v : ℕ) → HasImmediate w 0b0000011 d (load_funct3 k) a v → IsWordOf w (Load k d a v)
unfolding instruction_of
load Lb w d a v h = (h.0, rw h.1 (rw h.2 cc))
load Lh w d a v h = (h.0, rw h.1 (rw h.2 cc))
load Lw w d a v h = (h.0, rw h.1 (rw h.2 cc))
load Lbu w d a v h = (h.0, rw h.1 (rw h.2 cc))
load Lhu w d a v h = (h.0, rw h.1 (rw h.2 cc))

store : (width : Width) (w d a b g v : ℕ) → Has w 0b0100011 d (store_funct3 width) a b g → immediate_s w ≡ v → IsWordOf w (Store width a b v)
unfolding instruction_of
store One w d a b g v h e = (h.0, rw h.1 (rw h.2 cc))
store Two w d a b g v h e = (h.0, rw h.1 (rw h.2 cc))
store Four w d a b g v h e = (h.0, rw h.1 (rw h.2 cc))

branch : (c : Comparison) (w d a b g v : ℕ) → Has w 0b1100011 d (comparison_funct3 c) a b g → immediate_b w ≡ v → IsWordOf w (Branch c a b v)
unfolding instruction_of
branch Beq w d a b g v h e = (h.0, rw h.1 (rw h.2 cc))
branch Bne w d a b g v h e = (h.0, rw h.1 (rw h.2 cc))
branch Blt w d a b g v h e = (h.0, rw h.1 (rw h.2 cc))
branch Bge w d a b g v h e = (h.0, rw h.1 (rw h.2 cc))
branch Bltu w d a b g v h e = (h.0, rw h.1 (rw h.2 cc))
branch Bgeu w d a b g v h e = (h.0, rw h.1 (rw h.2 cc))

upper : (w d v : ℕ) → HasUpper w 0b0110111 d v → IsWordOf w (Lui d v)
unfolding instruction_of
upper w d v h = (h.0, rw h.1 cc)

upper_of_counter : (w d v : ℕ) → HasUpper w 0b0010111 d v → IsWordOf w (Auipc d v)
unfolding instruction_of
upper_of_counter w d v h = (h.0, rw h.1 cc)

jump : (w d v : ℕ) → HasJump w d v → IsWordOf w (Jal d v)
unfolding instruction_of
jump w d v h = (h.0, rw h.1 cc)

jump_to_register : (w d a v : ℕ) → HasImmediate w 0b1100111 d 0b000 a v → IsWordOf w (Jalr d a v)
unfolding instruction_of
jump_to_register w d a v h = (h.0, rw h.1 (rw h.2 cc))

fence : IsWordOf 0x0ff0000f Fence
unfolding instruction_of
fence = (omega arith, refl)

call : IsWordOf 0x00000073 Ecall
unfolding instruction_of
call = (omega arith, refl)

break : IsWordOf 0x00100073 Ebreak
unfolding instruction_of
break = (omega arith, refl)

-- ---- operations with an immediate

operate_immediate : (o : Operation) (d a v : ℕ) → d < 32 → a < 32 → IsImmediateOf o v → IsWordOf (immediate_word o d a v) (OperateImmediate o d a v)
unfolding instruction_of
operate_immediate Add d a v hd ha h = let e = i_form-has 0b0010011 d 0b000 a v (omega arith) hd (omega arith) ha h in (e.0, rw e.1 (rw e.2 cc))
operate_immediate Sub d a v hd ha h = absurd h
operate_immediate Sll d a v hd ha h = let e = r_form-has 0b0010011 d 0b001 a v 0b0000000 (omega arith) hd (omega arith) ha h (omega arith) in (e.0, rw e.1 (rw e.2 (rw e.3 cc)))
operate_immediate Slt d a v hd ha h = let e = i_form-has 0b0010011 d 0b010 a v (omega arith) hd (omega arith) ha h in (e.0, rw e.1 (rw e.2 cc))
operate_immediate Sltu d a v hd ha h = let e = i_form-has 0b0010011 d 0b011 a v (omega arith) hd (omega arith) ha h in (e.0, rw e.1 (rw e.2 cc))
operate_immediate Xor d a v hd ha h = let e = i_form-has 0b0010011 d 0b100 a v (omega arith) hd (omega arith) ha h in (e.0, rw e.1 (rw e.2 cc))
operate_immediate Srl d a v hd ha h = let e = r_form-has 0b0010011 d 0b101 a v 0b0000000 (omega arith) hd (omega arith) ha h (omega arith) in (e.0, rw e.1 (rw e.2 (rw e.3 cc)))
operate_immediate Sra d a v hd ha h = let e = r_form-has 0b0010011 d 0b101 a v 0b0100000 (omega arith) hd (omega arith) ha h (omega arith) in (e.0, rw e.1 (rw e.2 (rw e.3 cc)))
operate_immediate Or d a v hd ha h = let e = i_form-has 0b0010011 d 0b110 a v (omega arith) hd (omega arith) ha h in (e.0, rw e.1 (rw e.2 cc))
operate_immediate And d a v hd ha h = let e = i_form-has 0b0010011 d 0b111 a v (omega arith) hd (omega arith) ha h in (e.0, rw e.1 (rw e.2 cc))

-- ---- every instruction

word-is : (i : Instruction) → HasFields i → IsWordOf (word_of i) i
unfolding word_of
word-is (Lui d v) h = upper _ d v (u_form-has _ d v (omega arith) h.0 h.1 h.2)
word-is (Auipc d v) h = upper_of_counter _ d v (u_form-has _ d v (omega arith) h.0 h.1 h.2)
word-is (Jal d v) h = jump _ d v (j_form-has d v h.0 h.1 h.2)
word-is (Jalr d a v) h = jump_to_register _ d a v (i_form-has _ d _ a v (omega arith) h.0 (omega arith) h.1 h.2)
word-is (Branch c a b v) h =
    branch c _ _ a b _ v (r_form-has _ _ _ a b _ (omega arith) (omega arith) (comparison_funct3-fits c) h.0 h.1 (omega arith))
    (b_form-immediate _ a b v (comparison_funct3-fits c) h.0 h.1 h.2 h.3)
word-is (Load k d a v) h = load k _ d a v (i_form-has _ d _ a v (omega arith) h.0 (load_funct3-fits k) h.1 h.2)
word-is (Store width a b v) h =
    store width _ _ a b _ v (r_form-has _ _ _ a b _ (omega arith) (omega arith) (store_funct3-fits width) h.0 h.1 (omega arith))
    (s_form-immediate _ a b v (store_funct3-fits width) h.0 h.1 h.2)
word-is (OperateImmediate o d a v) h = operate_immediate o d a v h.0 h.1 h.2
word-is (Operate o d a b) h = operate o _ d a b (r_form-has _ d _ a b _ (omega arith) h.0 (operation_funct3-fits o) h.1 h.2 (operation_funct7-fits o))
word-is Fence h = fence
word-is Ecall h = call
word-is Ebreak h = break

-- it spells the instruction
pub word_of_spells : (i : Instruction) → HasFields i → instruction_of (word_of i) ≡ Some i
word_of_spells i h = (word-is i h).1

-- registers and immediates of its format: all that an instruction needs so that some word spells it
pub is_spelled : (i : Instruction) → HasFields i → IsSpelled i
is_spelled i h = let e = word-is i h in (word_of i, e.0, e.1)
