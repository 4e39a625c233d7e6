-- What instructions mark of a memory: the pages that they store to.
use Rattle.std.proofs.Common.{◌≡◌, ℕ, ◌%◌, ◌==◌, Bool, true, false, if◌then◌else◌, Result, Ok, Err, refl, arith}
use Rattle.std.proofs.lemmas.Bool.Decides.{nat_tests}
use Rattle.std.specs.declared.alloc.AllocError.{AllocError}
use Rattle.memory_model.specs.Memory.{number_from, width_bytes}
use Rattle.memory_model.specs.declared.Width.{Width}
use Rattle.instruction_model.specs.declared.Instruction.{Instruction}
use Rattle.instruction_model.specs.declared.Instruction.TheVariants.{Lui, Auipc, Jal, Jalr, Branch, Load, Store, OperateImmediate, Operate, Fence, Ecall, Ebreak}
use Rattle.instruction_model.specs.declared.LoadKind.{LoadKind}
use Rattle.instruction_model.specs.Outcome.{Registers, View, Outcome, goes, stores, calls, traps, perform, jumps, branches, loads, writes, loaded_width, extension_of, results, onward, with_link, offset, even, register}
use Rattle.instruction_model.specs.Arithmetic.{compares}
use Rattle.rv_exec.specs.declared.stepping.Stepped.{Stepped}
use Rattle.rv_exec.specs.declared.stepping.Stepped.TheVariants.{Next, Call, Trap}
use Rattle.rv_exec.specs.Steps.{Steps}
use Rattle.space_mem.specs.Held.{Held, Marks, with_stored}
use Rattle.space_mem.proofs.Dirty.{marks_same, marks_stored}

-- a store is to a multiple of its width
abbrev pub IsAligned : Outcome → Type 0
IsAligned (goes r) = Unit {0}
IsAligned (stores r at width v) = at % width_bytes width ≡ 0
IsAligned calls = Unit {0}
IsAligned (traps number value) = Unit {0}

either : (c : Bool) (x y : Outcome) → IsAligned x → IsAligned y → IsAligned (if c then x else y)
either true x y p q = p
either false x y p q = q

jump_aligned : (s : Registers) (target : ℕ) → IsAligned (jumps s target)
jump_aligned s target = either (target % 4 == 0) (goes (record s { pc = target })) (traps 0 target) tt tt

branch_aligned : (taken : Bool) (s : Registers) (target : ℕ) → IsAligned (branches taken s target)
branch_aligned true s target = jump_aligned s target
branch_aligned false s target = tt

load_aligned : (l : LoadKind) (m : View) (s : Registers) (r a : ℕ) → IsAligned (loads l m s r a)
load_aligned l m s r a =
    let read = results s r (extension_of l (number_from m.byte (loaded_width l) a)) in
    either (a % width_bytes (loaded_width l) == 0) (if m.may_read a then goes read else traps 5 a) (traps 4 a)
    (either (m.may_read a) (goes read) (traps 5 a) tt tt) tt

no_rest : (n : ℕ) → (n == 0) ≡ true → n ≡ 0
no_rest n h = grind (arith, nat_tests)

by_rest : (width : Width) (m : View) (s : Registers) (a v : ℕ) (c : Bool) → (a % width_bytes width == 0) ≡ c → IsAligned (if c then (if m.may_write a then stores (onward s) a width v else traps 7 a) else traps 6 a)
by_rest width m s a v true h = either (m.may_write a) (stores (onward s) a width v) (traps 7 a) (no_rest (a % width_bytes width) h) tt
by_rest width m s a v false h = tt

store_aligned : (width : Width) (m : View) (s : Registers) (a v : ℕ) → IsAligned (writes width m s a v)
store_aligned width m s a v = by_rest width m s a v (a % width_bytes width == 0) refl

perform_aligned : (i : Instruction) (m : View) (s : Registers) → IsAligned (perform i m s)
perform_aligned (Lui r v) m s = tt
perform_aligned (Auipc r v) m s = tt
perform_aligned (Jal r v) m s = jump_aligned (with_link s r) (offset s.pc v)
perform_aligned (Jalr r a v) m s = jump_aligned (with_link s r) (even (offset (register s a) v))
perform_aligned (Branch c a b v) m s = branch_aligned (compares c (register s a) (register s b)) s (offset s.pc v)
perform_aligned (Load l r a v) m s = load_aligned l m s r (offset (register s a) v)
perform_aligned (Store width a b v) m s = store_aligned width m s (offset (register s a) v) (register s b)
perform_aligned (OperateImmediate o r a v) m s = tt
perform_aligned (Operate o r a b) m s = tt
perform_aligned Fence m s = tt
perform_aligned Ecall m s = tt
perform_aligned Ebreak m s = tt

marks_stored_as : (g h : Held) (at : ℕ) (width : Width) (v : ℕ) → at % width_bytes width ≡ 0 → h ≡ with_stored g at width v → Marks g h
marks_stored_as g h at width v aligned is = rw is (marks_stored g at width v aligned)

step_marks : (o : Outcome) (r : Result Stepped AllocError) (s t : Registers) (g h : Held) → IsAligned o → Steps with_stored true o r s g t h → Marks g h
step_marks (goes u) (Ok Next) s t g h aligned steps = marks_same g h steps.1
step_marks (goes u) (Ok Call) s t g h aligned steps = absurd steps
step_marks (goes u) (Ok (Trap c v)) s t g h aligned steps = absurd steps
step_marks (goes u) (Err e) s t g h aligned steps = absurd steps
step_marks (stores u at width v) (Ok Next) s t g h aligned steps = marks_stored_as g h at width v aligned steps.1
step_marks (stores u at width v) (Ok Call) s t g h aligned steps = absurd steps
step_marks (stores u at width v) (Ok (Trap c w)) s t g h aligned steps = absurd steps
step_marks (stores u at width v) (Err e) s t g h aligned steps = marks_same g h steps.2
step_marks calls (Ok Next) s t g h aligned steps = absurd steps
step_marks calls (Ok Call) s t g h aligned steps = marks_same g h steps.1
step_marks calls (Ok (Trap c v)) s t g h aligned steps = absurd steps
step_marks calls (Err e) s t g h aligned steps = absurd steps
step_marks (traps c v) (Ok Next) s t g h aligned steps = absurd steps
step_marks (traps c v) (Ok Call) s t g h aligned steps = absurd steps
step_marks (traps c v) (Ok (Trap d u)) s t g h aligned steps = marks_same g h steps.3
step_marks (traps c v) (Err e) s t g h aligned steps = absurd steps

pub performed_marks : (i : Instruction) (m : View) (r : Result Stepped AllocError) (s t : Registers) (g h : Held) → Steps with_stored true (perform i m s) r s g t h → Marks g h
performed_marks i m r s t g h steps = step_marks (perform i m s) r s t g h (perform_aligned i m s) steps
