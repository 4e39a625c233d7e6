-- A top and the register block of Put and Get: what a block in memory holds, and the block that a top gives.
-- Source: OSDI 2010, "Efficient System-Enforced Deterministic Parallelism", the kernel interface: Put and Get hand over registers.
-- Our choice: number 22 for a space that runs.
use Rattle.std.specs.Prelude.{ℕ, zero, suc, ◌+◌, List, [], ◌∷◌, drop}
use Rattle.memory_model.specs.Memory.{Memory, byte_at, number_from, with_bytes}
use Rattle.memory_model.specs.declared.Width.TheVariants.{Four}
use Rattle.instruction_model.specs.Outcome.{Registers}
use Rattle.call_model.specs.declared.Block.{Block}
use Rattle.call_model.specs.Block.{block_bytes}
use Rattle.space_model.specs.declared.Status.{Status}
use Rattle.space_model.specs.declared.Status.TheVariants.{Running, Stopped}
use Rattle.space_model.specs.Stop.{cause_number}
use Rattle.space_model.specs.Space.{Top}

abbrev pub word : Memory → ℕ → ℕ
word m a = number_from (byte_at m) Four a

-- n words from an address on
abbrev pub words_from : Memory → ℕ → ℕ → List ℕ
words_from m a zero = []
words_from m a (suc n) = word m a ∷ words_from m (a + 4) n

-- the registers that a block at an address holds: pc, then x1 to x31; x0 is 0
abbrev pub registers_at : Memory → ℕ → Registers
registers_at m a = record { pc = word m a; x = 0 ∷ words_from m (a + 4) 31 }

-- the number of the cause; 22 is no cause, for a space that runs, which no call meets
abbrev pub stop_number : Status → ℕ
stop_number Running = 22
stop_number (Stopped cause value) = cause_number cause

abbrev pub stop_value : Status → ℕ
stop_value Running = 0
stop_value (Stopped cause value) = value

-- pc, x1 to x31, the number of the cause and the value
abbrev pub block_of : Top → Block
block_of t = record { pc = t.registers.pc; x = drop 1 t.registers.x; cause = stop_number t.status; value = stop_value t.status }

-- with a top's block from an address on
abbrev pub with_block : Memory → ℕ → Top → Memory
with_block m a t = with_bytes m a (block_bytes (block_of t))
