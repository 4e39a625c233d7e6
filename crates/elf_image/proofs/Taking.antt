-- Loads read one after the other, as a loop does.
use Rattle.std.proofs.Common.{◌≡◌, ℕ, suc, ◌-◌, ◌+◌, ◌≤◌, ◌<◌, List, [], ◌∷◌, ◌++◌, Option, Some, refl, sym, ◌∙◌, append_assoc, arith}
use Rattle.std.proofs.lemmas.List.{append-nil}
use Rattle.std.proofs.lemmas.List.Sums.{sum_by_push}
use Rattle.fault_model.specs.declared.fault.Fault.{Fault}
use Rattle.fault_model.specs.declared.fault.Fault.TheVariants as faults
use Rattle.elf_model.specs.declared.error.ElfError.{ElfError}
use Rattle.elf_model.specs.Header.{program_header_size}
use Rattle.elf_model.specs.Loads.{Load, end_of, loads_at, loads_from}
use Rattle.elf_model.specs.Needs.{end_after, memory_of, header_needs, headers_need}
use Rattle.elf_model.specs.Reading.{first_fault}
use Rattle.elf_image.specs.View.{Missed}
use Rattle.elf_model.proofs.Needs.{none_yet, first_append, first_stops}
use Rattle.elf_model.proofs.Sound.{end_push}

pub sums_push : (front : List Load) (l : Load) (all : List Load) → all ≡ front ++ l ∷ [] → (end_after 0 all ≡ end_of l) × (memory_of all ≡ memory_of front + l.size)
sums_push front l all e = rw e (end_push 0 front l, sum_by_push (λ (m : Load). m.size) front l)

pub goes_on : (before more all : List Load) (at count i : ℕ) (bytes : List ℕ) (total : Option ElfError) → i < count → first_fault (header_needs before at bytes) ≡ none_yet → more ≡ loads_at at bytes → all ≡ before ++ more
    → first_fault (headers_need before at (count - i) bytes) ≡ total → first_fault (headers_need all (at + program_header_size) (count - (i + 1)) bytes) ≡ total
unfolding headers_need
goes_on before more all at count i bytes total lt met one e so_far =
    let k : count - i ≡ suc (count - (i + 1)) = omega arith in
    let rest = headers_need (before ++ loads_at at bytes) (at + program_header_size) (count - (i + 1)) bytes in
    let step : first_fault (headers_need before at (count - i) bytes) ≡ first_fault rest = rw k (first_append (header_needs before at bytes) rest met) in
    rw (e, one) (sym step ∙ so_far)

pub takes_on : (before more all : List Load) (at count i : ℕ) (bytes : List ℕ) (total : List Load) → i < count → more ≡ loads_at at bytes → all ≡ before ++ more
    → before ++ loads_from at (count - i) bytes ≡ total → all ++ loads_from (at + program_header_size) (count - (i + 1)) bytes ≡ total
unfolding loads_from
takes_on before more all at count i bytes total lt one e so_far =
    let k : count - i ≡ suc (count - (i + 1)) = omega arith in
    let rest = loads_from (at + program_header_size) (count - (i + 1)) bytes in
    let step : before ++ loads_from at (count - i) bytes ≡ (before ++ loads_at at bytes) ++ rest = rw k (sym (append_assoc before (loads_at at bytes) rest)) in
    rw (e, one) (sym step ∙ so_far)

stops : (before : List Load) (at count i : ℕ) (bytes : List ℕ) (f : ElfError) (total : Option ElfError) → i < count → first_fault (header_needs before at bytes) ≡ Some f
    → first_fault (headers_need before at (count - i) bytes) ≡ total → total ≡ Some f
unfolding headers_need
stops before at count i bytes f total lt missed so_far =
    let k : count - i ≡ suc (count - (i + 1)) = omega arith in
    let rest = headers_need (before ++ loads_at at bytes) (at + program_header_size) (count - (i + 1)) bytes in
    let step : first_fault (headers_need before at (count - i) bytes) ≡ Some f = rw k (first_stops (header_needs before at bytes) rest f missed) in
    sym so_far ∙ step

pub ends : (e : Fault ElfError) (before : List Load) (at count i : ℕ) (bytes : List ℕ) (total : Option ElfError) → i < count → Missed e (first_fault (header_needs before at bytes))
    → first_fault (headers_need before at (count - i) bytes) ≡ total → Missed e total
ends faults.Memory before at count i bytes total lt missed so_far = tt
ends (faults.Bad f) before at count i bytes total lt missed so_far = stops before at count i bytes f total lt missed so_far

pub all_met : (before : List Load) (at count i : ℕ) (bytes : List ℕ) (total : Option ElfError) → count ≤ i → first_fault (headers_need before at (count - i) bytes) ≡ total → total ≡ none_yet
unfolding headers_need
all_met before at count i bytes total le so_far =
    let k : count - i ≡ 0 = omega arith in
    let step : first_fault (headers_need before at (count - i) bytes) ≡ none_yet = rw k refl in
    sym so_far ∙ step

pub all_taken : (before : List Load) (at count i : ℕ) (bytes : List ℕ) (total : List Load) → count ≤ i → before ++ loads_from at (count - i) bytes ≡ total → before ≡ total
unfolding loads_from
all_taken before at count i bytes total le so_far =
    let k : count - i ≡ 0 = omega arith in
    let step : before ++ loads_from at (count - i) bytes ≡ before = rw k (append-nil before) in
    sym step ∙ so_far
