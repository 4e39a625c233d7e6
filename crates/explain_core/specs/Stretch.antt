-- A stretch of instructions of a space that is watched, over its registers and its memory alone.
-- Our choice: a restatement for proofs.
use Rattle.std.specs.Prelude.{◌≡◌, ℕ, zero, suc, ◌+◌, ◌/◌, ◌<◌, ◌≤◌, ◌==◌, Bool, true, false, Option, Some, None, List, slice_index, slice_set, if◌then◌else◌}
use Rattle.memory_model.specs.Memory.{Memory}
use Rattle.instruction_model.specs.declared.Instruction.{Instruction}
use Rattle.instruction_model.specs.declared.Instruction.TheVariants.{Lui, Auipc, Jal, Jalr, Branch, Load, Store, OperateImmediate, Operate, Fence, Ecall, Ebreak}
use Rattle.instruction_model.specs.Outcome.{Registers, view_of, offset, outcome, perform}
use Rattle.rv_exec.specs.Steps.{registers_at}
use Rattle.space_model.specs.Space.{Top}
use Rattle.space_model.specs.Change.{after_spending}
use Rattle.space_model.specs.declared.Status.TheVariants.{Running}
use Rattle.space_step.specs.Stretch.{IsDone, Pays}
use Rattle.explain_core.specs.declared.stretch.Stretch.{Stretch}
use Rattle.explain_core.specs.declared.stretch.Trail.{Trail}
use Rattle.explain_core.specs.declared.watching.Found.{Found}
use Rattle.explain_core.specs.declared.watching.Moment.{Moment}
use Rattle.explain_core.specs.declared.watching.Watched.{Watched}
use Rattle.explain_core.specs.declared.watching.Watched.TheVariants.{Byte, Register}
use Rattle.explain_core.specs.Instructions.{instruction_in, spelled}
use Rattle.explain_core.specs.Watch.{value_in}

-- a byte, or one of the 32 registers
abbrev pub IsWatchable : Watched → Type 0
IsWatchable (Byte a) = Unit {0}
IsWatchable (Register r) = r < 32

-- ---- which instructions may change what is watched

-- the register that an instruction has for its result; x0, which stays 0, of one that has none
abbrev pub result_register : Instruction → ℕ
result_register (Lui r v) = r
result_register (Auipc r v) = r
result_register (Jal r v) = r
result_register (Jalr r a v) = r
result_register (Branch c a b v) = 0
result_register (Load k r a v) = r
result_register (Store width a b v) = 0
result_register (OperateImmediate o r a v) = r
result_register (Operate o r a b) = r
result_register Fence = 0
result_register Ecall = 0
result_register Ebreak = 0

-- an instruction stores into the aligned word of an address
abbrev pub stores_into : Instruction → List ℕ → ℕ → Bool
stores_into (Lui r v) x a = false
stores_into (Auipc r v) x a = false
stores_into (Jal r v) x a = false
stores_into (Jalr r b v) x a = false
stores_into (Branch c b d v) x a = false
stores_into (Load k r b v) x a = false
stores_into (Store width b d v) x a = offset (slice_index x b) v / 4 == a / 4
stores_into (OperateImmediate o r b v) x a = false
stores_into (Operate o r b d) x a = false
stores_into Fence x a = false
stores_into Ecall x a = false
stores_into Ebreak x a = false

-- an instruction leaves what is watched as it is, whatever memory holds
abbrev pub Leaves : Watched → Instruction → List ℕ → Type 0
Leaves w i x = (pc : ℕ) (m : Memory) (s : Registers) (n : Memory) → IsDone (perform i (view_of m) (registers_at pc x)) m s n → value_in w s.x n ≡ value_in w x m

-- the registers before an instruction that may change what is watched, by those behind it and by what was watched before it: the register that is watched
-- alone has changed, if any
abbrev pub given_back : Watched → List ℕ → ℕ → List ℕ
given_back (Byte a) x v = x
given_back (Register r) x v = if r == 0 then x else slice_set x r v

-- so it is of an instruction, whatever memory holds
abbrev pub GivesBack : Watched → Instruction → List ℕ → Type 0
GivesBack w i x = (pc : ℕ) (m : Memory) (s : Registers) (n : Memory) → IsDone (perform i (view_of m) (registers_at pc x)) m s n → given_back w s.x (value_in w x m) ≡ x

-- ---- what is found of them

-- what an instruction finds
abbrev pub found_in : Watched → Registers → Memory → Found
found_in w r m = record { registers = r; instruction = instruction_in m r.pc; value = value_in w r.x m }

-- of an instruction of a number that changed what is watched: what it found and what it left
abbrev pub moment_between : Watched → ℕ → Found → Registers → Memory → Moment
moment_between w number found s n = record { number = number; found = found; after = s; status = Running; value = value_in w s.x n }

-- that of an instruction that changed what is watched, else that of the last before it that did
abbrev pub last_of : Watched → ℕ → Registers → Memory → Registers → Memory → Option Moment → Option Moment
last_of w number r m s n before = if value_in w s.x n == value_in w r.x m then before else Some (moment_between w number (found_in w r m) s n)

-- a trail behind an instruction of a number, at this pc and of this word, that has left this value of what is watched, and these registers
abbrev pub noted : Trail → ℕ → ℕ → ℕ → Option ℕ → ℕ → List ℕ → Trail
noted t value number at word pc x = if value == t.value then t else record { value = value; changed = true; number = number; at = at; word = word; found = t.value; pc = pc; x = x }

-- what it keeps of the last instruction that changed what is watched
abbrev pub last_in : Watched → Trail → Option Moment
last_in w t =
    let found : Found = record { registers = registers_at t.at (given_back w t.x t.found); instruction = spelled t.word; value = t.found } in
    if t.changed then Some (record { number = t.number; found = found; after = registers_at t.pc t.x; status = Running; value = t.value }) else None

-- a trail keeps up with an instruction of a number: it knows what is watched, and what is found of the last that changed it
pub record KeepsUp (w : Watched) (number : ℕ) (r : Registers) (m : Memory) (s : Registers) (n : Memory) (old new : Trail) : Type 0 where
  pub value : new.value ≡ value_in w s.x n
  pub last : last_in w new ≡ last_of w number r m s n (last_in w old)

-- registers and memory before and after so many instructions, of which the first has a number, and what is found of the last that changed what is watched
abbrev pub Watches : Watched → ℕ → ℕ → Registers → Memory → Registers → Memory → Option Moment → Type 0
Watches w first zero r m s n last = (s ≡ r) × (n ≡ m) × (last ≡ None)
Watches w first (suc count) r m s n last =
    (q : Registers) × (k : Memory) × (before : Option Moment) × Watches w first count r m q k before × IsDone (outcome (view_of k) q) k s n × (last ≡ last_of w (first + count) q k s n before)

-- a space with other registers and another memory
abbrev pub with_parts : Top → Registers → Memory → Top
with_parts t r m = record t { registers = r; memory = m }

-- a space before and after a stretch of at most so many instructions, which it has paid for
pub record WatchesFrom (w : Watched) (first most : ℕ) (s : Stretch) (t u : Top) : Type 0 where
  pub within : s.count ≤ most
  pub pays : Pays s.count t
  pub done : Watches w first s.count t.registers t.memory u.registers u.memory s.last
  pub paid : u ≡ after_spending s.count t (with_parts t u.registers u.memory)
