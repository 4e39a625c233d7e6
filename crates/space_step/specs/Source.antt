-- What stands at an address: an instruction or a trap, whatever the other registers hold.
-- Our choice: a restatement for proofs.
use Rattle.std.specs.Prelude.{◌≡◌, ℕ, ◌%◌, true, List, Some, slice_index}
use Rattle.memory_model.specs.Memory.{Memory, number_from, width_bytes, with_number}
use Rattle.memory_model.specs.declared.Width.{Width}
use Rattle.memory_model.specs.declared.Width.TheVariants.{Four}
use Rattle.instruction_model.specs.Instruction.{instruction_of}
use Rattle.instruction_model.specs.declared.Instruction.{Instruction}
use Rattle.instruction_model.specs.declared.Instruction.TheVariants.{Store}
use Rattle.instruction_model.specs.Outcome.{View, Registers, traps, view_of, outcome, perform, offset}

-- the word at an address may be fetched, and spells this instruction
abbrev pub IsKnown : View → ℕ → Instruction → Type 0
IsKnown v a i = (v.may_fetch a ≡ true) × (instruction_of (number_from v.byte Four a) ≡ Some i)

-- no instruction stands at an address
abbrev pub HasNone : View → ℕ → Type 0
HasNone v a = (i : Instruction) → a % 4 ≡ 0 → IsKnown v a i → ⊥

-- where pc is this address, the outcome is that of the instruction
abbrev pub StandsAt : View → ℕ → Instruction → Type 0
StandsAt v a i = (r : Registers) → r.pc ≡ a → outcome v r ≡ perform i v r

-- where pc is this address, the outcome is the trap
abbrev pub TrapsAt : View → ℕ → ℕ → ℕ → Type 0
TrapsAt v a number value = (r : Registers) → r.pc ≡ a → outcome v r ≡ traps number value

-- what is so of memory however an instruction, if it is a store, stores
abbrev pub Outlives : (View → Type 0) → Memory → List ℕ → Instruction → Type 0
Outlives P m x i = (w : Width) (a b n value : ℕ) → i ≡ Store w a b n → offset (slice_index x a) n % width_bytes w ≡ 0 → P (view_of (with_number m (offset (slice_index x a) n) w value))
