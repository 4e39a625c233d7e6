-- The loads of a file that has what it needs stand one above the other below the stack, and their runs make segments of an image.
use Rattle.std.proofs.Common.{◌≡◌, ℕ, zero, suc, ◌+◌, ◌-◌, ◌*◌, ◌^◌, ◌≤◌, ◌<◌, true, false, cond, not, ◌||◌, eqb, List, [], ◌∷◌, ◌++◌, length, map, drop, refl, subst, arith, inl, inr}
use Rattle.std.proofs.lemmas.Bool.{cases_lt, eqb-false, ltb-true, leb-true, both_ways, and_parts, not-true}
use Rattle.std.proofs.lemmas.List.{append-nil, length-append, length-take}
use Rattle.std.proofs.lemmas.List.Sums.{sum_by-cons, sum_by_push}
use Rattle.std.proofs.lemmas.List.FromFn.{length-map-range_with_len}
use Rattle.memory_model.specs.Sizes.{page_size, pages, greatest_permission}
use Rattle.image_model.specs.Image as model
use Rattle.image_model.specs.Image.{IsSegment, AreSegments}
use Rattle.elf_model.specs.declared.error.ElfKind.TheVariants.{Count, Dynamic}
use Rattle.elf_model.specs.Header.{program_header_size, type_at, offset_at, address_at, file_size_at, memory_size_at}
use Rattle.elf_model.specs.Loads.{Load, end_of, IsLoad, AreLoads, is_load, load_at, loads_at, loads_from, stack, stack_base}
use Rattle.elf_model.specs.Pages.{Run, IsRun, AreRuns, is_touched, permission_of, first_page, last_page, byte_of, segment_of}
use Rattle.elf_model.specs.Reading.{runs_of}
use Rattle.elf_model.specs.Needs.{need, greatest_loads, greatest_memory, end_after, memory_of, load_needs, header_needs, headers_need}
use Rattle.elf_model.specs.Reading.{first_fault}
use Rattle.elf_model.proofs.Needs.{none_yet, both_none, met_first, are_met}
use Rattle.elf_model.proofs.Parts.{are_parts, none_past, permission_le, runs_are_found, runs_add, stack_runs, pages_in, pages_add}

-- ---- what the needs of program headers say of their loads

pub end_push : (from : ℕ) (ls : List Load) (l : Load) → end_after from (ls ++ l ∷ []) ≡ end_of l
end_push from [] l = refl
end_push from (m ∷ ls) l = end_push (end_of m) ls l

-- loads that follow others
pub record Follow (before ls : List Load) : Type 0 where
  pub loads : AreLoads (end_after 0 before) stack_base ls
  pub count : length before ≤ greatest_loads → length before + length ls ≤ greatest_loads
  pub memory : memory_of before ≤ greatest_memory → memory_of before + memory_of ls ≤ greatest_memory

load_met : (before : List Load) (at : ℕ) (bytes : List ℕ) → is_load at bytes ≡ true → first_fault (load_needs before at bytes) ≡ none_yet
    → IsLoad (end_after 0 before) stack_base (load_at at bytes) × (length before < greatest_loads) × (memory_of before + (load_at at bytes).size ≤ greatest_memory)
load_met before at bytes is e =
    let ns = load_needs before at bytes in
    let met = are_met ns e in
    let any = need true 0 Count in
    let count : length before < greatest_loads = ltb-true _ _ (met 0 any (omega arith)) in
    let order : end_after 0 before ≤ address_at at bytes = leb-true _ _ (met 1 any (omega arith)) in
    let size_le : file_size_at at bytes ≤ memory_size_at at bytes = leb-true _ _ (met 3 any (omega arith)) in
    let range : address_at at bytes + memory_size_at at bytes ≤ stack_base = leb-true _ _ (met 4 any (omega arith)) in
    let memory : memory_of before + memory_size_at at bytes ≤ greatest_memory = leb-true _ _ (met 5 any (omega arith)) in
    let some : memory_size_at at bytes ≡ 0 → ⊥ = eqb-false _ _ (not-true (eqb (memory_size_at at bytes) 0) (and_parts (eqb (type_at at bytes) 1) (not (eqb (memory_size_at at bytes) 0)) is).1) in
    let taken = length-take (file_size_at at bytes) (drop (offset_at at bytes) bytes) in (
      record {
        order = order;
        filled = omega (arith, some);
        sized = omega (arith, taken, size_le);
        range = range;
        permission = omega arith;
      },
      count,
      memory,
    )

pub follow : (n at : ℕ) (before : List Load) (bytes : List ℕ) → first_fault (headers_need before at n bytes) ≡ none_yet → Follow before (loads_from at n bytes)
unfolding headers_need loads_from
follow zero at before bytes e = record { loads = tt; count = λ le. omega (arith, le); memory = λ le. omega (arith, le) }
follow (suc n) at before bytes e =
    let parts = both_none (header_needs before at bytes) (headers_need (before ++ loads_at at bytes) (at + program_header_size) n bytes) e in
    let own = (met_first (need (not (eqb (type_at at bytes) 2 || eqb (type_at at bytes) 3)) at Dynamic) (cond (is_load at bytes) (load_needs before at bytes) []) parts.0).1 in
    let rest = follow n (at + program_header_size) (before ++ loads_at at bytes) bytes parts.1 in
    elim (is_load at bytes) as (λ b. is_load at bytes ≡ b → first_fault (cond b (load_needs before at bytes) []) ≡ none_yet → Follow (before ++ cond b (load_at at bytes ∷ []) []) (loads_from (at + program_header_size) n bytes)
    → Follow before (cond b (load_at at bytes ∷ []) [] ++ loads_from (at + program_header_size) n bytes)) [
      | true ↦ λ is met others.
          let l = load_at at bytes in
          let ls = loads_from (at + program_header_size) n bytes in
          let h = load_met before at bytes is met in
          let long : length (before ++ l ∷ []) ≡ length before + 1 = length-append before (l ∷ []) in
          let much : memory_of (before ++ l ∷ []) ≡ memory_of before + l.size = sum_by_push (λ (m : Load). m.size) before l in
          let more : memory_of (l ∷ ls) ≡ l.size + memory_of ls = sum_by-cons (λ (m : Load). m.size) l ls in
          record {
            loads = (h.0, subst (λ (from : ℕ). AreLoads from stack_base ls) (end_push 0 before l) others.loads);
            count = λ le. let k = others.count (omega (arith, long, h.1)) in omega (arith, long, k);
            memory = λ le. let k = others.memory (omega (arith, much, h.2)) in omega (arith, much, more, k);
          }
      | false ↦ λ is met others. subst (λ (front : List Load). Follow front (loads_from (at + program_header_size) n bytes)) (append-nil before) others
    ] refl own rest

-- ---- how many pages runs have

pages_of_parts : (from : ℕ) (ls : List Load) → from ≤ stack_base → AreLoads from stack_base ls → page_size * pages_in (runs_of (ls ++ stack ∷ [])) ≤ memory_of ls + 8192 * length ls + 65536
pages_of_parts from [] le h = rw stack_runs (omega arith)
pages_of_parts from (l ∷ ls) le h =
    let filled = h.0.filled in
    let range = h.0.range in
    let rest = pages_of_parts (end_of l) ls range h.1 in
    let parts = are_parts from (l ∷ ls) le h in
    let more : memory_of (l ∷ ls) ≡ l.size + memory_of ls = sum_by-cons (λ (m : Load). m.size) l ls in
    let others = ls ++ stack ∷ [] in
    let added = pages_add (is_touched others) (permission_of others) l (runs_of others) filled (runs_are_found (end_of l) others parts.1) in
    let own : page_size * (last_page l + 1 - first_page l) ≤ l.size + 8192 = omega (arith, filled) in
    rw (runs_add from l others parts) (omega (arith, rest, added, own, more))

-- ---- runs make segments

segment_is : (ls : List Load) (from : ℕ) (r : Run) → IsRun (is_touched ls) (permission_of ls) from r → page_size * (r.end - r.first) < 2 ^ 32 → ((page : ℕ) → pages ≤ page → is_touched ls page ≡ false) → ((page : ℕ) → permission_of ls page ≤ greatest_permission)
    → IsSegment from (segment_of ls r)
segment_is ls from r h short none_past allowed =
    let some = h.filled in
    let last = h.alike (r.end - 1) (omega (arith, some)) (omega (arith, some)) in
    let first = h.alike r.first (omega arith) (omega (arith, some)) in
    let low : r.end - 1 < pages = elim (cases_lt (r.end - 1) pages) [
      | inl lt ↦ lt
      | inr past ↦ absurd (both_ways _ (none_past (r.end - 1) past) last.0)
    ] in
    let len = length-map-range_with_len (byte_of ls) (page_size * r.first) (page_size * (r.end - r.first)) in
    let order = h.order in
    let most = allowed r.first in
    record {
      order = omega (arith, order);
      permission = omega (arith, most, first.1);
      filled = omega (arith, len, some);
      short = omega (arith, len, short);
      range = omega (arith, len, low, some);
    }

are_segments : (ls : List Load) (from : ℕ) (rs : List Run) → AreRuns (is_touched ls) (permission_of ls) from rs → page_size * pages_in rs < 2 ^ 32 → ((page : ℕ) → pages ≤ page → is_touched ls page ≡ false) → ((page : ℕ) → permission_of ls page ≤ greatest_permission)
    → AreSegments from (map (segment_of ls) rs)
are_segments ls from [] h short none_past allowed = tt
are_segments ls from (r ∷ rs) h short none_past allowed =
    let some = h.0.filled in
    let len = length-map-range_with_len (byte_of ls) (page_size * r.first) (page_size * (r.end - r.first)) in
    let end : model.last_page (segment_of ls r) + 1 ≡ r.end = omega (arith, len, some) in
    (segment_is ls from r h.0 (omega (arith, short)) none_past allowed, rw end (are_segments ls (r.end) rs h.1 (omega (arith, short)) none_past allowed))

-- loads as a file may have them
pub record IsSound (ls : List Load) : Type 0 where
  pub loads : AreLoads 0 stack_base ls
  pub count : length ls ≤ greatest_loads
  pub memory : memory_of ls ≤ greatest_memory

pub sound_segments : (ls : List Load) → IsSound ls → AreSegments 0 (map (segment_of (ls ++ stack ∷ [])) (runs_of (ls ++ stack ∷ [])))
sound_segments ls h =
    let parts = are_parts 0 ls (omega arith) h.loads in
    let many = pages_of_parts 0 ls (omega arith) h.loads in
    let few = h.count in
    let small = h.memory in
    are_segments (ls ++ stack ∷ []) 0 (runs_of (ls ++ stack ∷ [])) (runs_are_found 0 (ls ++ stack ∷ []) parts) (omega (arith, many, few, small))
    (λ page le. none_past 0 (2 ^ 32) (ls ++ stack ∷ []) parts page (omega (arith, le)))
    (permission_le 0 (2 ^ 32) (ls ++ stack ∷ []) parts)
