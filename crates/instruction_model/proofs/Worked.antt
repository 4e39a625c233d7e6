-- Worked words, and worked operations on corner operands.
use Rattle.std.proofs.Common.{◌≡◌, Some, None, refl}
use Rattle.memory_model.specs.declared.Width.TheVariants.{Four}
use Rattle.instruction_model.specs.Instruction.{instruction_of}
use Rattle.instruction_model.specs.Word.{immediate_b, immediate_i, immediate_j}
use Rattle.instruction_model.specs.Arithmetic.{operation_result}
use Rattle.instruction_model.specs.declared.Operation.TheVariants.{Add, Sub, Slt, Sltu, Sra}
use Rattle.instruction_model.specs.declared.Comparison.TheVariants.{Beq}
use Rattle.instruction_model.specs.declared.Instruction.TheVariants.{Jal, Branch, Store, OperateImmediate, Fence}
use Rattle.instruction_model.specs.Encoding.{word_of}

addi_0 : instruction_of 0x00000013 ≡ Some (OperateImmediate Add 0 0 0)
unfolding instruction_of
addi_0 = refl

srai_0 : instruction_of 0x40005013 ≡ Some (OperateImmediate Sra 0 0 0)
unfolding instruction_of
srai_0 = refl

fence : instruction_of 0x0FF0000F ≡ Some Fence
unfolding instruction_of
fence = refl

-- a shift to the left with a funct7 that is not 0
no_shift : instruction_of 0x40001013 ≡ None
unfolding instruction_of
no_shift = refl

-- FENCE.I, which is an extension
no_fence_i : instruction_of 0x0000100F ≡ None
unfolding instruction_of
no_fence_i = refl

-- MUL, which is an extension
no_mul : instruction_of 0x02000033 ≡ None
unfolding instruction_of
no_mul = refl

no_ones : instruction_of 0xFFFFFFFF ≡ None
unfolding instruction_of
no_ones = refl

-- -2 ^ 31, shifted by 36, which counts as 4
sra_by_four : operation_result Sra 0x80000000 36 ≡ 0xF8000000
sra_by_four = refl

slt_of_extremes : operation_result Slt 0x80000000 0x7FFFFFFF ≡ 1
slt_of_extremes = refl

sltu_of_extremes : operation_result Sltu 0x80000000 0x7FFFFFFF ≡ 0
sltu_of_extremes = refl

-- the immediate -1 of SLTIU is the greatest number
sltiu_of_minus_one : operation_result Sltu 0x7FFFFFFF (immediate_i 0xFFF00013) ≡ 1
sltiu_of_minus_one = refl

sub_below_0 : operation_result Sub 0 1 ≡ 0xFFFFFFFF
sub_below_0 = refl

-- beq x0, x0, -4 and jal x0, -4
branch_back : immediate_b 0xFE000EE3 ≡ 0xFFFFFFFC
branch_back = refl

jump_back : immediate_j 0xFFDFF06F ≡ 0xFFFFFFFC
jump_back = refl

-- addi x0, x0, 0 and srai x0, x0, 0
word_of_addi : word_of (OperateImmediate Add 0 0 0) ≡ 0x00000013
unfolding word_of
word_of_addi = refl

word_of_srai : word_of (OperateImmediate Sra 0 0 0) ≡ 0x40005013
unfolding word_of
word_of_srai = refl

-- sw ra, 12(sp)
word_of_store : word_of (Store Four 2 1 12) ≡ 0x00112623
unfolding word_of
word_of_store = refl

word_of_branch_back : word_of (Branch Beq 0 0 0xFFFFFFFC) ≡ 0xFE000EE3
unfolding word_of
word_of_branch_back = refl

word_of_jump_back : word_of (Jal 0 0xFFFFFFFC) ≡ 0xFFDFF06F
unfolding word_of
word_of_jump_back = refl
