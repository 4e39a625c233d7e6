-- A file whose needs were tried, one after the other.
use Rattle.std.proofs.Common.{◌≡◌, ℕ, zero, suc, ◌-◌, ◌^◌, ◌≤◌, ◌<◌, Bool, false, List, [], ◌∷◌, ◌++◌, get_or, map, length, Some, Result, Ok, Err, refl, sym, ap, subst, ◌∙◌, arith, inl, inr}
use Rattle.std.specs.List.{All}
use Rattle.std.specs.Prelude.{IfOk}
use Rattle.std.proofs.lemmas.Bool.{cases_lt, both_ways}
use Rattle.std.proofs.lemmas.List.{length-map}
use Rattle.memory_model.specs.Sizes as sizes
use Rattle.image_model.specs.Image.{Image, Segment, AreSegments}
use Rattle.fault_model.specs.declared.fault.Fault.{Fault}
use Rattle.fault_model.specs.declared.fault.Fault.TheVariants as faults
use Rattle.fault_model.specs.Gives.{Fails, Gives}
use Rattle.elf_model.specs.declared.error.ElfError.{ElfError}
use Rattle.elf_model.specs.Header.{headers_of, header_count_of, entry_of}
use Rattle.elf_model.specs.Loads as model
use Rattle.elf_model.specs.Loads.{AreLoads, loads_from, loads_of, parts_of}
use Rattle.elf_model.specs.Pages as pages
use Rattle.elf_model.specs.Pages.{AreRuns, is_touched, permission_of, segment_of}
use Rattle.elf_model.specs.Reading.{runs_of}
use Rattle.elf_model.specs.Needs.{needs, file_needs, headers_need}
use Rattle.elf_model.specs.Reading.{first_fault}
use Rattle.elf_model.specs.Elf.{ElfOf}
use Rattle.elf_model.specs.Reading.{image_stated, elf_of}
use Rattle.elf_model.proofs.Needs.{none_yet, first_append, first_stops}
use Rattle.elf_model.proofs.Parts.{are_parts, none_past, runs_are_found, few}
use Rattle.elf_model.proofs.Sound.{sound_segments}
use Rattle.elf_model.proofs.Images.{loads_are_sound, takes}
use Rattle.elf_image.specs.declared.runs.Run.{Run}
use Rattle.elf_image.specs.View.{run_view, run_views, Missed, Tried, IsWithin}

abbrev okay : Image → Result Image ElfError
okay i = Ok i

refused : (bytes : List ℕ) (f : ElfError) → first_fault (needs bytes) ≡ Some f → elf_of bytes ≡ Err f
unfolding elf_of
refused bytes f e = rw e refl

pub is_refused : (e : Fault ElfError) (bytes : List ℕ) → Missed e (first_fault (needs bytes)) → Fails e (elf_of bytes)
is_refused faults.Memory bytes missed = tt
is_refused (faults.Bad f) bytes missed = refused bytes f missed

pub file_refused : (e : Fault ElfError) (bytes : List ℕ) → Missed e (first_fault (file_needs bytes)) → Missed e (first_fault (needs bytes))
file_refused faults.Memory bytes missed = tt
file_refused (faults.Bad f) bytes missed = first_stops (file_needs bytes) (headers_need [] (headers_of bytes) (header_count_of bytes) bytes) f missed

pub header_tried : {X : Type 0} (r : Result X (Fault ElfError)) (bytes : List ℕ) (at count : ℕ) → first_fault (file_needs bytes) ≡ none_yet → at ≡ headers_of bytes → count ≡ header_count_of bytes → Tried r (first_fault (headers_need [] at count bytes)) → Tried r (first_fault (needs bytes))
header_tried r bytes at count file is_at is_count tried =
    let here = subst (λ (k : ℕ). Tried r (first_fault (headers_need [] k count bytes))) is_at tried in
    let there = subst (λ (n : ℕ). Tried r (first_fault (headers_need [] (headers_of bytes) n bytes))) is_count here in
    rw (first_append (file_needs bytes) (headers_need [] (headers_of bytes) (header_count_of bytes) bytes) file) there

each_within : (t : ℕ → Bool) (p : ℕ → ℕ) (from : ℕ) (rs : List Run) → ((page : ℕ) → sizes.pages ≤ page → t page ≡ false) → AreRuns t p from (run_views rs) → (k : ℕ) (d : Run) → k < length rs → IsWithin (run_view (get_or rs k d))
each_within t p from [] none h k d lt = absurd (omega arith)
each_within t p from (r ∷ rs) none h zero d lt =
    let filled = h.0.filled in
    let below : r.end ≤ sizes.pages = elim (cases_lt (r.end - 1) sizes.pages) [
      | inl low ↦ omega arith
      | inr past ↦ absurd (both_ways _ (none (r.end - 1) past) (h.0.alike (r.end - 1) (omega (arith, filled)) (omega (arith, filled))).0)
    ] in
    record { filled = filled; below = below }
each_within t p from (r ∷ rs) none h (suc k) d lt = each_within t p r.end rs none h.1 k d (omega arith)

pub are_within : (ls : List model.Load) (rs : List Run) → AreLoads 0 (2 ^ 32) ls → run_views rs ≡ runs_of ls → All (λ r. IsWithin (run_view r)) rs
are_within ls rs h e = λ k d lt.
    each_within (is_touched ls) (permission_of ls) 0 rs (λ page le. none_past 0 (2 ^ 32) ls h page (omega (arith, le)))
    (rw e (runs_are_found 0 ls h)) k d lt

pub is_stated : (bytes : List ℕ) (r : Result Image (Fault ElfError)) → Gives (λ i. i) r (elf_of bytes) → IfOk r (λ i. ElfOf bytes i)
is_stated bytes (Ok i) given = takes bytes i given
is_stated bytes (Err e) given = tt

-- ---- what a reader has once all needs are met

pub parts_are : (bytes : List ℕ) (at count : ℕ) (views : List model.Load) → at ≡ headers_of bytes → count ≡ header_count_of bytes → views ≡ loads_from at count bytes ++ model.stack ∷ [] → views ≡ parts_of bytes
parts_are bytes at count views is_at is_count taken =
    taken ∙ ap (λ (k : ℕ). loads_from k count bytes ++ model.stack ∷ []) is_at ∙ ap (λ (n : ℕ). loads_from (headers_of bytes) n bytes ++ model.stack ∷ []) is_count

pub above : (bytes : List ℕ) (views : List model.Load) → first_fault (needs bytes) ≡ none_yet → views ≡ parts_of bytes → AreLoads 0 (2 ^ 32) views
above bytes views met parts = rw parts (are_parts 0 (loads_of bytes) (omega arith) (loads_are_sound bytes met).loads)

pub record Made (bytes : List ℕ) (segments : List Segment) : Type 0 where
  pub met : first_fault (needs bytes) ≡ none_yet
  pub are : segments ≡ map (segment_of (parts_of bytes)) (runs_of (parts_of bytes))

pub made : (bytes : List ℕ) (views low high : List model.Load) (runs : List pages.Run) (segments : List Segment) → first_fault (needs bytes) ≡ none_yet → views ≡ parts_of bytes → low ≡ views → high ≡ views
    → runs ≡ runs_of low → segments ≡ map (segment_of high) runs → Made bytes segments
made bytes views low high runs segments met parts is_low is_high is_runs is_segments = record {
  met = met;
  are = is_segments ∙ ap (map (segment_of high)) (is_runs ∙ ap runs_of (is_low ∙ parts)) ∙ ap (λ (ls : List model.Load). map (segment_of ls) (runs_of (parts_of bytes))) (is_high ∙ parts);
}

pub are_few : (bytes : List ℕ) (segments : List Segment) → Made bytes segments → length segments ≤ 64
are_few bytes segments h =
    let loads = loads_are_sound bytes h.met in
    rw (h.are, length-map) (few (loads_of bytes) loads.loads loads.count)

pub are_sound : (bytes : List ℕ) (segments : List Segment) → Made bytes segments → AreSegments 0 segments
are_sound bytes segments h = rw (h.are) (sound_segments (loads_of bytes) (loads_are_sound bytes h.met))

pub image_made : (bytes : List ℕ) (i : Image) → Made bytes i.segments → i.entry ≡ entry_of bytes → i.stack ≡ model.stack_pointer → elf_of bytes ≡ Ok i
unfolding elf_of
image_made bytes i h entry stack =
    let same : image_stated bytes ≡ i = λ k. record { entry = sym entry k; stack = sym stack k; segments = sym h.are k } in
    rw (h.met) (ap okay same)
