-- Instructions that leave what is watched as it is, and that no other register than their result's changes.
use Rattle.std.proofs.Common.{◌≡◌, ℕ, ◌/◌, ◌%◌, ◌==◌, Bool, true, false, if◌then◌else◌, List, slice_set, refl, sym, ap, ◌∙◌, subst, arith}
use Rattle.std.proofs.lemmas.Bool.Decides.{nat_tests}
use Rattle.std.proofs.lemmas.List.{get_or-set_other, set-get_or, set-set}
use Rattle.std.specs.Prelude.{slice_index}
use Rattle.memory_model.specs.Memory.{Memory, byte_at, number_from, width_bytes, with_number}
use Rattle.memory_model.specs.declared.Width.{Width}
use Rattle.instruction_model.specs.declared.Instruction.{Instruction}
use Rattle.instruction_model.specs.declared.Instruction.TheVariants.{Lui, Auipc, Jal, Jalr, Branch, Load, Store, OperateImmediate, Operate, Fence, Ecall, Ebreak}
use Rattle.instruction_model.specs.declared.LoadKind.{LoadKind}
use Rattle.instruction_model.specs.Arithmetic.{compares, operation_result}
use Rattle.instruction_model.specs.Outcome.{Registers, View, Outcome, goes, stores, calls, traps, view_of, perform, jumps, branches, loads, writes, loaded_width, extension_of, results, with_register, onward, with_link, next_pc, offset, even, register}
use Rattle.rv_exec.specs.Steps.{registers_at}
use Rattle.space_step.specs.Stretch.{IsDone}
use Rattle.space_step.proofs.Caching.{byte_stays}
use Rattle.explain_core.specs.declared.watching.Watched.TheVariants.{Byte, Register}
use Rattle.explain_core.specs.Stretch.{GivesBack, Leaves, given_back, result_register, stores_into}

-- ---- a register

-- an outcome leaves a register of those before
abbrev Keeps : ℕ → List ℕ → Outcome → Type 0
Keeps n x (goes r) = slice_index r.x n ≡ slice_index x n
Keeps n x (stores r at width v) = slice_index r.x n ≡ slice_index x n
Keeps n x calls = Unit {0}
Keeps n x (traps number value) = Unit {0}

either : (n : ℕ) (x : List ℕ) (c : Bool) (o p : Outcome) → Keeps n x o → Keeps n x p → Keeps n x (if c then o else p)
either n x true o p h k = h
either n x false o p h k = k

set_other : (n : ℕ) (s : Registers) (r v : ℕ) (zero : Bool) → (r ≡ n → ⊥) → slice_index (if zero then s.x else slice_set s.x r v) n ≡ slice_index s.x n
set_other n s r v true other = refl
set_other n s r v false other = get_or-set_other s.x r n v 0 (λ e. other (sym e))

-- a result in another
other_result : (n : ℕ) (s : Registers) (r v : ℕ) → (r ≡ n → ⊥) → (let t = with_register s r v in slice_index t.x n) ≡ slice_index s.x n
other_result n s r v other = set_other n s r v (r == 0) other

jump_keeps : (n : ℕ) (x : List ℕ) (s : Registers) (target : ℕ) → slice_index s.x n ≡ slice_index x n → Keeps n x (jumps s target)
jump_keeps n x s target same = either n x (target % 4 == 0) (goes (record s { pc = target })) (traps 0 target) same tt

branch_keeps : (n : ℕ) (taken : Bool) (s : Registers) (target : ℕ) → Keeps n s.x (branches taken s target)
branch_keeps n true s target = jump_keeps n s.x s target refl
branch_keeps n false s target = refl

load_keeps : (n : ℕ) (l : LoadKind) (m : View) (s : Registers) (r a : ℕ) → (r ≡ n → ⊥) → Keeps n s.x (loads l m s r a)
load_keeps n l m s r a other =
    let v = extension_of l (number_from m.byte (loaded_width l) a) in
    either n s.x (a % width_bytes (loaded_width l) == 0) (if m.may_read a then goes (results s r v) else traps 5 a) (traps 4 a)
    (either n s.x (m.may_read a) (goes (results s r v)) (traps 5 a) (other_result n (onward s) r v other) tt) tt

store_keeps : (n : ℕ) (width : Width) (m : View) (s : Registers) (a v : ℕ) → Keeps n s.x (writes width m s a v)
store_keeps n width m s a v =
    either n s.x (a % width_bytes width == 0) (if m.may_write a then stores (onward s) a width v else traps 7 a) (traps 6 a)
    (either n s.x (m.may_write a) (stores (onward s) a width v) (traps 7 a) refl tt) tt

perform_keeps : (n : ℕ) (i : Instruction) (m : View) (s : Registers) → (result_register i ≡ n → ⊥) → Keeps n s.x (perform i m s)
perform_keeps n (Lui r v) m s other = other_result n (onward s) r v other
perform_keeps n (Auipc r v) m s other = other_result n (onward s) r (offset s.pc v) other
perform_keeps n (Jal r v) m s other = jump_keeps n s.x (with_link s r) (offset s.pc v) (other_result n s r (next_pc s) other)
perform_keeps n (Jalr r a v) m s other = jump_keeps n s.x (with_link s r) (even (offset (register s a) v)) (other_result n s r (next_pc s) other)
perform_keeps n (Branch c a b v) m s other = branch_keeps n (compares c (register s a) (register s b)) s (offset s.pc v)
perform_keeps n (Load l r a v) m s other = load_keeps n l m s r (offset (register s a) v) other
perform_keeps n (Store width a b v) m s other = store_keeps n width m s (offset (register s a) v) (register s b)
perform_keeps n (OperateImmediate o r a v) m s other = other_result n (onward s) r (operation_result o (register s a) v) other
perform_keeps n (Operate o r a b) m s other = other_result n (onward s) r (operation_result o (register s a) (register s b)) other
perform_keeps n Fence m s other = refl
perform_keeps n Ecall m s other = tt
perform_keeps n Ebreak m s other = tt

done_keeps : (n : ℕ) (x : List ℕ) (o : Outcome) (m : Memory) (s : Registers) (k : Memory) → Keeps n x o → IsDone o m s k → slice_index s.x n ≡ slice_index x n
done_keeps n x (goes r) m s k keeps done = ap (λ (q : Registers). slice_index q.x n) done.0 ∙ keeps
done_keeps n x (stores r at width v) m s k keeps done = ap (λ (q : Registers). slice_index q.x n) done.0 ∙ keeps
done_keeps n x calls m s k keeps done = absurd done
done_keeps n x (traps number value) m s k keeps done = absurd done

pub leaves_register : (n : ℕ) (i : Instruction) (x : List ℕ) → (result_register i ≡ n → ⊥) → Leaves (Register n) i x
leaves_register n i x other pc m s k done = done_keeps n x (perform i (view_of m) (registers_at pc x)) m s k (perform_keeps n i (view_of m) (registers_at pc x) other) done

-- ---- a byte

-- an outcome leaves a byte of a memory
abbrev KeepsByte : ℕ → Memory → Outcome → Type 0
KeepsByte a m (goes r) = Unit {0}
KeepsByte a m (stores r at width v) = byte_at (with_number m at width v) a ≡ byte_at m a
KeepsByte a m calls = Unit {0}
KeepsByte a m (traps number value) = Unit {0}

either_byte : (a : ℕ) (m : Memory) (c : Bool) (o p : Outcome) → KeepsByte a m o → KeepsByte a m p → KeepsByte a m (if c then o else p)
either_byte a m true o p h k = h
either_byte a m false o p h k = k

jump_keeps_byte : (a : ℕ) (m : Memory) (s : Registers) (target : ℕ) → KeepsByte a m (jumps s target)
jump_keeps_byte a m s target = either_byte a m (target % 4 == 0) (goes (record s { pc = target })) (traps 0 target) tt tt

branch_keeps_byte : (a : ℕ) (m : Memory) (taken : Bool) (s : Registers) (target : ℕ) → KeepsByte a m (branches taken s target)
branch_keeps_byte a m true s target = jump_keeps_byte a m s target
branch_keeps_byte a m false s target = tt

load_keeps_byte : (a : ℕ) (m : Memory) (l : LoadKind) (w : View) (s : Registers) (r at : ℕ) → KeepsByte a m (loads l w s r at)
load_keeps_byte a m l w s r at =
    let read = results s r (extension_of l (number_from w.byte (loaded_width l) at)) in
    either_byte a m (at % width_bytes (loaded_width l) == 0) (if w.may_read at then goes read else traps 5 at) (traps 4 at)
    (either_byte a m (w.may_read at) (goes read) (traps 5 at) tt tt) tt

no_rest : (n : ℕ) → (n == 0) ≡ true → n ≡ 0
no_rest n h = grind (arith, nat_tests)

other_word : (at a : ℕ) → (at / 4 == a / 4) ≡ false → a / 4 ≡ at / 4 → ⊥
other_word at a h e = grind (arith, nat_tests)

by_rest : (a : ℕ) (m : Memory) (width : Width) (s : Registers) (at v : ℕ) → (at / 4 == a / 4) ≡ false → (c : Bool) → (at % width_bytes width == 0) ≡ c
    → KeepsByte a m (if c then (let w = view_of m in if w.may_write at then stores (onward s) at width v else traps 7 at) else traps 6 at)
by_rest a m width s at v other true h =
    let w = view_of m in either_byte a m (w.may_write at) (stores (onward s) at width v) (traps 7 at) (byte_stays m at width v a (no_rest (at % width_bytes width) h) (other_word at a other)) tt
by_rest a m width s at v other false h = tt

perform_keeps_byte : (a : ℕ) (m : Memory) (i : Instruction) (s : Registers) → stores_into i s.x a ≡ false → KeepsByte a m (perform i (view_of m) s)
perform_keeps_byte a m (Lui r v) s other = tt
perform_keeps_byte a m (Auipc r v) s other = tt
perform_keeps_byte a m (Jal r v) s other = jump_keeps_byte a m (with_link s r) (offset s.pc v)
perform_keeps_byte a m (Jalr r b v) s other = jump_keeps_byte a m (with_link s r) (even (offset (register s b) v))
perform_keeps_byte a m (Branch c b d v) s other = branch_keeps_byte a m (compares c (register s b) (register s d)) s (offset s.pc v)
perform_keeps_byte a m (Load l r b v) s other = load_keeps_byte a m l (view_of m) s r (offset (register s b) v)
perform_keeps_byte a m (Store width b d v) s other = by_rest a m width s (offset (register s b) v) (register s d) other (offset (register s b) v % width_bytes width == 0) refl
perform_keeps_byte a m (OperateImmediate o r b v) s other = tt
perform_keeps_byte a m (Operate o r b d) s other = tt
perform_keeps_byte a m Fence s other = tt
perform_keeps_byte a m Ecall s other = tt
perform_keeps_byte a m Ebreak s other = tt

done_keeps_byte : (a : ℕ) (o : Outcome) (m : Memory) (s : Registers) (k : Memory) → KeepsByte a m o → IsDone o m s k → byte_at k a ≡ byte_at m a
done_keeps_byte a (goes r) m s k keeps done = ap (λ n. byte_at n a) done.1
done_keeps_byte a (stores r at width v) m s k keeps done = ap (λ n. byte_at n a) done.1 ∙ keeps
done_keeps_byte a calls m s k keeps done = absurd done
done_keeps_byte a (traps number value) m s k keeps done = absurd done

pub leaves_byte : (a : ℕ) (i : Instruction) (x : List ℕ) → stores_into i x a ≡ false → Leaves (Byte a) i x
leaves_byte a i x other pc m s k done = done_keeps_byte a (perform i (view_of m) (registers_at pc x)) m s k (perform_keeps_byte a m i (registers_at pc x) other) done

-- ---- the registers before

-- an outcome leaves a register file from which that before it is found, by one register
abbrev Back : ℕ → List ℕ → Outcome → Type 0
Back r x (goes t) = given_back (Register r) t.x (slice_index x r) ≡ x
Back r x (stores t at width v) = given_back (Register r) t.x (slice_index x r) ≡ x
Back r x calls = Unit {0}
Back r x (traps number value) = Unit {0}

either_back : (r : ℕ) (x : List ℕ) (c : Bool) (o p : Outcome) → Back r x o → Back r x p → Back r x (if c then o else p)
either_back r x true o p h k = h
either_back r x false o p h k = k

set_back : (r : ℕ) (x : List ℕ) (v : ℕ) (zero : Bool) → (let y = if zero then x else slice_set x r v in if zero then y else slice_set y r (slice_index x r)) ≡ x
set_back r x v true = refl
set_back r x v false = set-set x r v (slice_index x r) ∙ set-get_or x r 0

-- a result
result_back : (s : Registers) (r v : ℕ) → (let t = with_register s r v in given_back (Register r) t.x (slice_index s.x r)) ≡ s.x
result_back s r v = set_back r s.x v (r == 0)

jump_back : (r : ℕ) (x : List ℕ) (s : Registers) (target : ℕ) → given_back (Register r) s.x (slice_index x r) ≡ x → Back r x (jumps s target)
jump_back r x s target same = either_back r x (target % 4 == 0) (goes (record s { pc = target })) (traps 0 target) same tt

branch_back : (taken : Bool) (s : Registers) (target : ℕ) → Back 0 s.x (branches taken s target)
branch_back true s target = jump_back 0 s.x s target refl
branch_back false s target = refl

load_back : (l : LoadKind) (m : View) (s : Registers) (r a : ℕ) → Back r s.x (loads l m s r a)
load_back l m s r a =
    let v = extension_of l (number_from m.byte (loaded_width l) a) in
    either_back r s.x (a % width_bytes (loaded_width l) == 0) (if m.may_read a then goes (results s r v) else traps 5 a) (traps 4 a)
    (either_back r s.x (m.may_read a) (goes (results s r v)) (traps 5 a) (result_back (onward s) r v) tt) tt

store_back : (width : Width) (m : View) (s : Registers) (a v : ℕ) → Back 0 s.x (writes width m s a v)
store_back width m s a v =
    either_back 0 s.x (a % width_bytes width == 0) (if m.may_write a then stores (onward s) a width v else traps 7 a) (traps 6 a)
    (either_back 0 s.x (m.may_write a) (stores (onward s) a width v) (traps 7 a) refl tt) tt

perform_back : (i : Instruction) (m : View) (s : Registers) → Back (result_register i) s.x (perform i m s)
perform_back (Lui r v) m s = result_back (onward s) r v
perform_back (Auipc r v) m s = result_back (onward s) r (offset s.pc v)
perform_back (Jal r v) m s = jump_back r s.x (with_link s r) (offset s.pc v) (result_back s r (next_pc s))
perform_back (Jalr r a v) m s = jump_back r s.x (with_link s r) (even (offset (register s a) v)) (result_back s r (next_pc s))
perform_back (Branch c a b v) m s = branch_back (compares c (register s a) (register s b)) s (offset s.pc v)
perform_back (Load l r a v) m s = load_back l m s r (offset (register s a) v)
perform_back (Store width a b v) m s = store_back width m s (offset (register s a) v) (register s b)
perform_back (OperateImmediate o r a v) m s = result_back (onward s) r (operation_result o (register s a) v)
perform_back (Operate o r a b) m s = result_back (onward s) r (operation_result o (register s a) (register s b))
perform_back Fence m s = refl
perform_back Ecall m s = tt
perform_back Ebreak m s = tt

done_back : (r : ℕ) (x : List ℕ) (o : Outcome) (m : Memory) (s : Registers) (k : Memory) → Back r x o → IsDone o m s k → given_back (Register r) s.x (slice_index x r) ≡ x
done_back r x (goes t) m s k back done = ap (λ (q : Registers). given_back (Register r) q.x (slice_index x r)) done.0 ∙ back
done_back r x (stores t at width v) m s k back done = ap (λ (q : Registers). given_back (Register r) q.x (slice_index x r)) done.0 ∙ back
done_back r x calls m s k back done = absurd done
done_back r x (traps number value) m s k back done = absurd done

pub gives_back_register : (n : ℕ) (i : Instruction) (x : List ℕ) → result_register i ≡ n → GivesBack (Register n) i x
gives_back_register n i x is pc m s k done =
    subst (λ r. given_back (Register r) s.x (slice_index x r) ≡ x) is (done_back (result_register i) x (perform i (view_of m) (registers_at pc x)) m s k (perform_back i (view_of m) (registers_at pc x)) done)

-- a store has none
stores_none : (a : ℕ) (i : Instruction) (x : List ℕ) → stores_into i x a ≡ true → result_register i ≡ 0
stores_none a (Store width b d v) x into = refl
stores_none a (Lui r v) x into = cc
stores_none a (Auipc r v) x into = cc
stores_none a (Jal r v) x into = cc
stores_none a (Jalr r b v) x into = cc
stores_none a (Branch c b d v) x into = cc
stores_none a (Load l r b v) x into = cc
stores_none a (OperateImmediate o r b v) x into = cc
stores_none a (Operate o r b d) x into = cc
stores_none a Fence x into = cc
stores_none a Ecall x into = cc
stores_none a Ebreak x into = cc

pub gives_back_byte : (a : ℕ) (i : Instruction) (x : List ℕ) → stores_into i x a ≡ true → GivesBack (Byte a) i x
gives_back_byte a i x into = gives_back_register 0 i x (stores_none a i x into)
