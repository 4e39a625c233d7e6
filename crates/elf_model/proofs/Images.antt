-- A file is that of the one image which it states, or has one first fault.
use Rattle.std.proofs.Common.{◌≡◌, ℕ, ◌+◌, ◌<◌, ◌^◌, ◌≤◌, List, ◌++◌, [], ◌∷◌, length, map, take, drop, Some, None, Result, Ok, Err, refl, sym, ap, subst, ◌∙◌, inl, inr, arith}
use Rattle.std.specs.Prelude.{◌⊎◌, ◌↔◌, slice_index}
use Rattle.std.proofs.lemmas.List.{get_or-take, get_or-drop, length-map}
use Rattle.image_model.specs.Image.{Image, IsImage}
use Rattle.image_model.specs.Reading.{IsBytes}
use Rattle.elf_model.specs.declared.error.ElfError.{ElfError}
use Rattle.elf_model.specs.Header.{headers_of, header_count_of, entry_of}
use Rattle.elf_model.specs.Loads.{Load, AreLoads, loads_of, parts_of, stack, stack_base}
use Rattle.elf_model.specs.Pages.{Run, RunsOf, is_touched, permission_of, segment_of}
use Rattle.elf_model.specs.Reading.{runs_of}
use Rattle.elf_model.specs.Needs.{IsFirstFault, needs, file_needs, headers_need}
use Rattle.elf_model.specs.Reading.{first_fault}
use Rattle.elf_model.specs.Elf.{ElfOf}
use Rattle.elf_model.specs.Reading.{image_stated, unless_fault, elf_of}
use Rattle.elf_model.proofs.Runs.{one_list}
use Rattle.elf_model.proofs.Needs.{none_yet, both_none, are_met, none_missed, is_found, is_first}
use Rattle.elf_model.proofs.Parts.{are_parts, runs_are_found, few}
use Rattle.elf_model.proofs.Sound.{IsSound, follow, sound_segments}

-- the loads of a file that has what it needs
pub loads_are_sound : (bytes : List ℕ) → first_fault (needs bytes) ≡ none_yet → IsSound (loads_of bytes)
loads_are_sound bytes e =
    let parts = both_none (file_needs bytes) (headers_need [] (headers_of bytes) (header_count_of bytes) bytes) e in
    let h = follow (header_count_of bytes) (headers_of bytes) [] bytes parts.1 in
    let count = h.count (omega arith) in
    let memory = h.memory (omega arith) in
    record { loads = h.loads; count = omega (arith, count); memory = omega (arith, memory) }

pub runs_are : (ls : List Load) → AreLoads 0 stack_base ls → RunsOf (ls ++ stack ∷ []) (runs_of (ls ++ stack ∷ []))
runs_are ls h = runs_are_found 0 (ls ++ stack ∷ []) (are_parts 0 ls (omega arith) h)

pub few_runs : (ls : List Load) (rs : List Run) → AreLoads 0 stack_base ls → length ls ≤ 32 → RunsOf (ls ++ stack ∷ []) rs → length rs ≤ 64
few_runs ls rs h le runs =
    let same = one_list (is_touched (ls ++ stack ∷ [])) (permission_of (ls ++ stack ∷ [])) 0 rs (runs_of (ls ++ stack ∷ [])) runs (runs_are ls h) in
    rw same (few ls h le)

-- ---- what is read is stated

stated : (bytes : List ℕ) → first_fault (needs bytes) ≡ none_yet → ElfOf bytes (image_stated bytes)
stated bytes e = record {
  met = are_met (needs bytes) e;
  entry = refl;
  stack = refl;
  runs = runs_of (parts_of bytes);
  are_runs = runs_are (loads_of bytes) (loads_are_sound bytes e).loads;
  segments = refl;
}

abbrev okay : Image → Result Image ElfError
okay i = Ok i

image_is : (i j : Image) → ◌≡◌ {A = Result Image ElfError} (Ok i) (Ok j) → i ≡ j
image_is i j e = cc

error_is : (d e : ElfError) → ◌≡◌ {A = Result Image ElfError} (Err d) (Err e) → d ≡ e
error_is d e h = cc

same_image : (i j : Image) → i.entry ≡ j.entry → i.stack ≡ j.stack → i.segments ≡ j.segments → i ≡ j
same_image i j e s g = λ k. record { entry = e k; stack = s k; segments = g k }

pub takes : (bytes : List ℕ) (i : Image) → elf_of bytes ≡ Ok i → ElfOf bytes i
unfolding elf_of
takes bytes i e =
    elim (first_fault (needs bytes)) as (λ f. first_fault (needs bytes) ≡ f → unless_fault f (image_stated bytes) ≡ Ok i → ElfOf bytes i) [
      | None ↦ λ none h. subst (λ (j : Image). ElfOf bytes j) (image_is (image_stated bytes) i h) (stated bytes none)
      | Some f ↦ λ some h. absurd cc
    ] refl e

pub reads : (bytes : List ℕ) (i : Image) → ElfOf bytes i → elf_of bytes ≡ Ok i
unfolding elf_of
reads bytes i h =
    let none = none_missed (needs bytes) h.met in
    let ls = parts_of bytes in
    let runs = one_list (is_touched ls) (permission_of ls) 0 h.runs (runs_of ls) h.are_runs (runs_are (loads_of bytes) (loads_are_sound bytes none).loads) in
    let segments : i.segments ≡ (image_stated bytes).segments = h.segments ∙ ap (map (segment_of ls)) runs in
    let same = same_image (image_stated bytes) i (sym h.entry) (sym h.stack) (sym segments) in
    rw none (ap okay same)

pub exactly : (bytes : List ℕ) (i : Image) → (elf_of bytes ≡ Ok i) ↔ ElfOf bytes i
exactly bytes i = (takes bytes i, reads bytes i)

pub one : (bytes : List ℕ) (i j : Image) → ElfOf bytes i → ElfOf bytes j → i ≡ j
one bytes i j h k = image_is i j (sym (reads bytes i h) ∙ reads bytes j k)

-- ---- what is refused has a first fault

refused : (bytes : List ℕ) (e : ElfError) → elf_of bytes ≡ Err e → IsFirstFault (needs bytes) e
unfolding elf_of
refused bytes e h =
    elim (first_fault (needs bytes)) as (λ f. first_fault (needs bytes) ≡ f → unless_fault f (image_stated bytes) ≡ Err e → IsFirstFault (needs bytes) e) [
      | None ↦ λ none k. absurd cc
      | Some f ↦ λ some k. subst (λ (d : ElfError). IsFirstFault (needs bytes) d) (error_is f e k) (is_first (needs bytes) f some)
    ] refl h

pub refuses : (bytes : List ℕ) (e : ElfError) → IsFirstFault (needs bytes) e → elf_of bytes ≡ Err e
unfolding elf_of
refuses bytes e h = rw (is_found (needs bytes) e h) refl

pub exactly_refused : (bytes : List ℕ) (e : ElfError) → (elf_of bytes ≡ Err e) ↔ IsFirstFault (needs bytes) e
exactly_refused bytes e = (refused bytes e, refuses bytes e)

pub one_error : (bytes : List ℕ) (d e : ElfError) → IsFirstFault (needs bytes) d → IsFirstFault (needs bytes) e → d ≡ e
one_error bytes d e h k = error_is d e (sym (refuses bytes d h) ∙ refuses bytes e k)

pub never_both : (bytes : List ℕ) (i : Image) (e : ElfError) → ElfOf bytes i → IsFirstFault (needs bytes) e → ⊥
never_both bytes i e h k = let a = reads bytes i h in let b = refuses bytes e k in cc

pub either : (bytes : List ℕ) → ((i : Image) × ElfOf bytes i) ⊎ ((e : ElfError) × IsFirstFault (needs bytes) e)
either bytes =
    elim (elf_of bytes) as (λ r. elf_of bytes ≡ r → ((i : Image) × ElfOf bytes i) ⊎ ((e : ElfError) × IsFirstFault (needs bytes) e)) [
      | Ok i ↦ λ h. inl (i, takes bytes i h)
      | Err e ↦ λ h. inr (e, refused bytes e h)
    ] refl

-- ---- what is stated is an image

entry_below : (bytes : List ℕ) → IsBytes bytes → entry_of bytes < 2 ^ 32
entry_below bytes fits =
    let byte = λ (k : ℕ). λ (lt : k < 4). let e : slice_index (take 4 (drop 24 bytes)) k ≡ slice_index bytes (24 + k) = get_or-take 4 (drop 24 bytes) k 0 lt ∙ get_or-drop 24 bytes k 0 in e in
    omega (arith, byte 0 (omega arith), byte 1 (omega arith), byte 2 (omega arith), byte 3 (omega arith), fits 24, fits 25, fits 26, fits 27)

pub sound : (bytes : List ℕ) (i : Image) → IsBytes bytes → ElfOf bytes i → IsImage i
sound bytes i fits h =
    let loads = loads_are_sound bytes (none_missed (needs bytes) h.met) in
    let same : i ≡ image_stated bytes = one bytes i (image_stated bytes) h (stated bytes (none_missed (needs bytes) h.met)) in
    let low = entry_below bytes fits in
    rw same (record {
      entry = low;
      stack = omega arith;
      count = simp length-map (few (loads_of bytes) loads.loads loads.count);
      segments = sound_segments (loads_of bytes) loads;
    })
