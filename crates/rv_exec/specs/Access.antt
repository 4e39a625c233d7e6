-- What a bus answers to an aligned access, by what an instruction sees of it (numbers of causes as in the RISC-V Privileged ISA,
-- "Machine Cause").
-- Source: RISC-V Privileged ISA, "Machine Cause", for the numbers.
use Rattle.std.specs.Prelude.{◌≡◌, ℕ, ◌+◌, ◌/◌, ◌%◌, ◌==◌, Bool, true, false, Result, Ok, Err, if◌then◌else◌}
use Rattle.memory_model.specs.Memory.{number_from}
use Rattle.memory_model.specs.declared.Width.{Width}
use Rattle.memory_model.specs.declared.Width.TheVariants.{One, Two, Four}
use Rattle.instruction_model.specs.Outcome.{View}
use Rattle.rv_exec.specs.declared.bus.Fault.{Fault}
use Rattle.rv_exec.specs.declared.bus.StoreFault.{StoreFault}
use Rattle.rv_exec.specs.declared.bus.StoreFault.TheVariants.{Fault as Refused, Memory}

-- the word at an address, or a fetch fault
abbrev pub fetch_result : View → ℕ → Result ℕ Fault
fetch_result m a = if m.may_fetch a then Ok (number_from m.byte Four a) else Err (record { cause = 1; addr = a })

-- the number at an address, or a load fault
abbrev pub load_result : View → ℕ → Width → Result ℕ Fault
load_result m a width = if m.may_read a then Ok (number_from m.byte width a) else Err (record { cause = 5; addr = a })

-- a store: done where the address may be written, unless memory is wanted; else a store fault; where it is not done, nothing
-- changes
abbrev pub IsStored : {B U : Type 0} → Bool → Bool → ℕ → B → B → B → Result U StoreFault → Type 0
IsStored may_write takes_memory a old stored new (Ok u) = (may_write ≡ true) × (new ≡ stored)
IsStored may_write takes_memory a old stored new (Err (Refused f)) = (may_write ≡ false) × (f.cause ≡ 7) × (f.addr ≡ a) × (new ≡ old)
IsStored may_write takes_memory a old stored new (Err Memory) = (may_write ≡ true) × (takes_memory ≡ true) × (new ≡ old)

-- the bytes after a store: the number's lowest ones, the least first, as many as its width has
abbrev pub stored_byte : (ℕ → ℕ) → ℕ → Width → ℕ → ℕ → ℕ
stored_byte byte a One v q = if q == a then v % 256 else byte q
stored_byte byte a Two v q = if q == a + 1 then v / 256 % 256 else if q == a then v % 256 else byte q
stored_byte byte a Four v q =
    if q == a + 3 then v / 16777216 % 256
    else if q == a + 2 then v / 65536 % 256
    else if q == a + 1 then v / 256 % 256
    else if q == a then v % 256
    else byte q
