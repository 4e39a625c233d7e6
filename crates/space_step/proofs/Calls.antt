-- An instruction's outcome is a call exactly where the instruction is ECALL, and what is next then.
use Rattle.std.proofs.Common.{◌≡◌, ℕ, ◌%◌, ◌==◌, Bool, true, false, if◌then◌else◌, refl}
use Rattle.memory_model.specs.declared.Width.{Width}
use Rattle.memory_model.specs.Memory.{number_from, width_bytes}
use Rattle.instruction_model.specs.declared.Instruction.{Instruction}
use Rattle.instruction_model.specs.declared.Instruction.TheVariants.{Lui, Auipc, Jal, Jalr, Branch, Load, Store, OperateImmediate, Operate, Fence, Ecall, Ebreak}
use Rattle.instruction_model.specs.declared.LoadKind.{LoadKind}
use Rattle.instruction_model.specs.Outcome.{Registers, View, Outcome, goes, stores, traps, perform, jumps, branches, loads, writes, loaded_width, extension_of, results, onward, with_link, offset, even, register}
use Rattle.instruction_model.specs.Arithmetic.{compares}
use Rattle.space_step.specs.Stretch.{is_call}

neither : (c : Bool) (x y : Outcome) → is_call x ≡ false → is_call y ≡ false → is_call (if c then x else y) ≡ false
neither true x y p q = p
neither false x y p q = q

no_jump_calls : (s : Registers) (target : ℕ) → is_call (jumps s target) ≡ false
no_jump_calls s target = neither (target % 4 == 0) (goes (record s { pc = target })) (traps 0 target) refl refl

no_branch_calls : (taken : Bool) (s : Registers) (target : ℕ) → is_call (branches taken s target) ≡ false
no_branch_calls true s target = no_jump_calls s target
no_branch_calls false s target = refl

no_load_calls : (l : LoadKind) (m : View) (s : Registers) (r a : ℕ) → is_call (loads l m s r a) ≡ false
no_load_calls l m s r a =
    let read = results s r (extension_of l (number_from m.byte (loaded_width l) a)) in
    neither (a % width_bytes (loaded_width l) == 0) (if m.may_read a then goes read else traps 5 a) (traps 4 a)
    (neither (m.may_read a) (goes read) (traps 5 a) refl refl) refl

no_store_calls : (width : Width) (m : View) (s : Registers) (a v : ℕ) → is_call (writes width m s a v) ≡ false
no_store_calls width m s a v =
    neither (a % width_bytes width == 0) (if m.may_write a then stores (onward s) a width v else traps 7 a) (traps 6 a)
    (neither (m.may_write a) (stores (onward s) a width v) (traps 7 a) refl refl) refl

pub no_other_calls : (i : Instruction) (m : View) (s : Registers) → (i ≡ Ecall → ⊥) → is_call (perform i m s) ≡ false
no_other_calls (Lui r v) m s h = refl
no_other_calls (Auipc r v) m s h = refl
no_other_calls (Jal r v) m s h = no_jump_calls (with_link s r) (offset s.pc v)
no_other_calls (Jalr r a v) m s h = no_jump_calls (with_link s r) (even (offset (register s a) v))
no_other_calls (Branch c a b v) m s h = no_branch_calls (compares c (register s a) (register s b)) s (offset s.pc v)
no_other_calls (Load l r a v) m s h = no_load_calls l m s r (offset (register s a) v)
no_other_calls (Store width a b v) m s h = no_store_calls width m s (offset (register s a) v) (register s b)
no_other_calls (OperateImmediate o r a v) m s h = refl
no_other_calls (Operate o r a b) m s h = refl
no_other_calls Fence m s h = refl
no_other_calls Ecall m s h = absurd (h refl)
no_other_calls Ebreak m s h = refl
