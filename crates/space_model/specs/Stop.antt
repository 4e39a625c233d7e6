-- Causes and statuses: the number and the word of each cause.
-- Source: RISC-V Privileged ISA, "Machine Cause", for numbers 0 to 7.
-- Our choice: the other causes, and the words of all.
use Rattle.std.specs.Prelude.{ℕ, List, [], ◌∷◌, unwrap_or, ◌==◌, Bool, true, false, codes}
use Rattle.std.specs.List.{find}
use Rattle.space_model.specs.declared.Status.{Status}
use Rattle.space_model.specs.declared.Status.TheVariants.{Running, Stopped}
use Rattle.space_model.specs.declared.Cause.{Cause}
use Rattle.space_model.specs.declared.Cause.TheVariants.{FetchMisaligned, FetchFault, Illegal, Breakpoint, LoadMisaligned, LoadFault, StoreMisaligned, StoreFault, Badcall, Conflict, Limit, Fuel, Ret, Fresh}

abbrev pub cause_number : Cause → ℕ
cause_number FetchMisaligned = 0
cause_number FetchFault = 1
cause_number Illegal = 2
cause_number Breakpoint = 3
cause_number LoadMisaligned = 4
cause_number LoadFault = 5
cause_number StoreMisaligned = 6
cause_number StoreFault = 7
cause_number Badcall = 16
cause_number Conflict = 17
cause_number Limit = 18
cause_number Fuel = 19
cause_number Ret = 20
cause_number Fresh = 21

abbrev pub causes : List Cause
causes =
    FetchMisaligned ∷ FetchFault ∷ Illegal ∷ Breakpoint ∷ LoadMisaligned ∷ LoadFault ∷ StoreMisaligned ∷ StoreFault
    ∷ Badcall ∷ Conflict ∷ Limit ∷ Fuel ∷ Ret ∷ Fresh ∷ []

-- the cause that has this number; where there is none, that of a space that has never run
abbrev pub cause_of : ℕ → Cause
cause_of n = unwrap_or (find (λ c. n == cause_number c) causes) Fresh

-- the word of a cause in a report
abbrev pub cause_word : Cause → List ℕ
cause_word FetchMisaligned = codes "fetch-misaligned"
cause_word FetchFault = codes "fetch-fault"
cause_word Illegal = codes "illegal"
cause_word Breakpoint = codes "breakpoint"
cause_word LoadMisaligned = codes "load-misaligned"
cause_word LoadFault = codes "load-fault"
cause_word StoreMisaligned = codes "store-misaligned"
cause_word StoreFault = codes "store-fault"
cause_word Badcall = codes "badcall"
cause_word Conflict = codes "conflict"
cause_word Limit = codes "limit"
cause_word Fuel = codes "fuel"
cause_word Ret = codes "ret"
cause_word Fresh = codes "fresh"

abbrev pub is_ret : Cause → Bool
is_ret c = cause_number c == 20

abbrev pub is_stopped : Status → Bool
is_stopped Running = false
is_stopped (Stopped cause value) = true

abbrev pub has_returned : Status → Bool
has_returned Running = false
has_returned (Stopped cause value) = is_ret cause
