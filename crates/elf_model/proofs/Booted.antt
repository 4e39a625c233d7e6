-- The memory of a root that boots from an image which a file states.
use Rattle.std.proofs.Common.{◌≡◌, ℕ, ◌+◌, ◌-◌, ◌*◌, ◌/◌, ◌^◌, ◌≤◌, ◌<◌, false, ◌&&◌, leb, ltb, List, [], ◌∷◌, length, map, refl, sym, ap, ◌∙◌, inl, inr, arith}
use Rattle.std.specs.Prelude.{slice_index}
use Rattle.std.proofs.lemmas.Bool.{cond_both, cases_lt, and_parts, leb-true, ltb-true, both_ways, or_parts}
use Rattle.std.proofs.lemmas.List.FromFn.{length-map-range_with_len, get_or-map-range_with_len}
use Rattle.memory_model.specs.Memory.{Memory, no_memory, byte_at, permission_at, with_bytes}
use Rattle.memory_model.specs.Sparse.{value_at-no_values}
use Rattle.memory_model.specs.Sizes.{page_size}
use Rattle.memory_model.proofs.Runs.{byte_at-with_bytes, byte_at-with_bytes_out, permission_at-with_bytes, permission_at-with_permissions, permission_at-with_permissions_out, byte_at-with_permissions}
use Rattle.image_model.specs.Image as model
use Rattle.image_model.specs.Image.{Image, Segment}
use Rattle.run_model.specs.Boot.{with_segment, with_segments, boot}
use Rattle.space_model.specs.Space.{top_of}
use Rattle.device_model.specs.Devices.{Devices}
use Rattle.elf_model.specs.Loads.{Load, AreLoads, end_of, parts_of, loads_of}
use Rattle.elf_model.specs.Pages.{Run, IsRun, AreRuns, HasMemory, byte_of, is_touched, permission_of, touches, segment_of}
use Rattle.elf_model.specs.Elf.{ElfOf}
use Rattle.elf_model.proofs.Needs.{none_missed}
use Rattle.elf_model.proofs.Parts.{touched_within, no_permission, are_parts}
use Rattle.elf_model.proofs.Images.{loads_are_sound}
use Rattle.elf_model.specs.Needs.{needs}

-- no byte stands in a page that no load touches
no_byte : (from end : ℕ) (ls : List Load) (a : ℕ) → AreLoads from end ls → is_touched ls (a / page_size) ≡ false → byte_of ls a ≡ 0
no_byte from end [] a h e = refl
no_byte from end (l ∷ ls) a h e =
    let parts = or_parts (touches (a / page_size) l) (is_touched ls (a / page_size)) e in
    let sized = h.0.sized in
    let filled = h.0.filled in
    cond_both (leb l.address a && ltb a (l.address + length l.content)) (slice_index l.content (a - l.address)) (byte_of ls a) (λ b. b ≡ 0)
    (λ there.
    let bounds = and_parts (leb l.address a) (ltb a (l.address + length l.content)) there in
    let low = leb-true l.address a bounds.0 in
    let high = ltb-true a (l.address + length l.content) bounds.1 in
    absurd (both_ways _ parts.0 (touched_within (a / page_size) l (omega (arith, low)) (omega (arith, high, sized, low)))))
    (λ _. no_byte (end_of l) end ls a h.1 parts.1)

-- the pages before this one have what loads state, and the others nothing
record Filled (ls : List Load) (m : Memory) (from : ℕ) : Type 0 where
  byte : (a : ℕ) → a / page_size < from → byte_at m a ≡ byte_of ls a
  no_bytes : (a : ℕ) → from ≤ a / page_size → byte_at m a ≡ 0
  permission : (page : ℕ) → page < from → permission_at m page ≡ permission_of ls page
  no_permissions : (page : ℕ) → from ≤ page → permission_at m page ≡ 0

one_run : (low end : ℕ) (ls : List Load) (m : Memory) (from : ℕ) (r : Run) → AreLoads low end ls → IsRun (is_touched ls) (permission_of ls) from r → Filled ls m from → Filled ls (with_segment m (segment_of ls r)) r.end
one_run low end ls m from r h g f =
    let s = segment_of ls r in
    let some = g.filled in
    let order = g.order in
    let len = length-map-range_with_len (byte_of ls) (page_size * r.first) (page_size * (r.end - r.first)) in
    let base : s.address / page_size ≡ r.first = omega arith in
    let count : model.last_page s + 1 - s.address / page_size ≡ r.end - r.first = omega (arith, len, some) in
    let written = with_bytes m s.address s.content in
    let pages = model.last_page s + 1 - s.address / page_size in
    record {
      byte = λ a lt.
          let kept : byte_at (with_segment m s) a ≡ byte_at written a = byte_at-with_permissions written (s.address / page_size) pages s.permission a in
          elim (cases_lt (a / page_size) r.first) [
            | inl before ↦
                let outside : byte_at written a ≡ byte_at m a = byte_at-with_bytes_out m s.address s.content a (λ above. absurd (omega (arith, above, before))) in
                elim (cases_lt (a / page_size) from) [
                  | inl earlier ↦ kept ∙ outside ∙ f.byte a earlier
                  | inr free ↦ kept ∙ outside ∙ f.no_bytes a free ∙ sym (no_byte low end ls a h (g.none_before (a / page_size) free before))
                ]
            | inr within ↦
                let k = a - s.address in
                let short : k < length s.content = omega (arith, len, within, lt) in
                let place : s.address + k ≡ a = omega (arith, within) in
                let there : byte_at written (s.address + k) ≡ slice_index s.content k = byte_at-with_bytes m s.address s.content k short in
                let stated : slice_index s.content k ≡ byte_of ls a = get_or-map-range_with_len (byte_of ls) (page_size * r.first) (page_size * (r.end - r.first)) k a 0 (omega (arith, len, short)) (omega (arith, within)) in
                kept ∙ ap (byte_at written) (sym place) ∙ there ∙ stated
          ];
      no_bytes = λ a ge.
          byte_at-with_permissions written (s.address / page_size) pages s.permission a
          ∙ byte_at-with_bytes_out m s.address s.content a (λ _. omega (arith, len, ge, some))
          ∙ f.no_bytes a (omega (arith, ge, some, order));
      permission = λ page lt. elim (cases_lt page r.first) [
        | inl before ↦
            let outside : permission_at (with_segment m s) page ≡ permission_at written page = permission_at-with_permissions_out written (s.address / page_size) pages s.permission page (λ above. absurd (omega (arith, above, before, base))) in
            let kept = permission_at-with_bytes m s.address s.content page in
            elim (cases_lt page from) [
              | inl earlier ↦ outside ∙ kept ∙ f.permission page earlier
              | inr free ↦ outside ∙ kept ∙ f.no_permissions page free ∙ sym (no_permission ls page (g.none_before page free before))
            ]
        | inr within ↦ permission_at-with_permissions written (s.address / page_size) pages s.permission page (omega (arith, within, base)) (omega (arith, within, base, count, lt, some)) ∙ sym (g.alike page within lt).1
      ];
      no_permissions = λ page ge.
          permission_at-with_permissions_out written (s.address / page_size) pages s.permission page (λ _. omega (arith, base, count, ge, some))
          ∙ permission_at-with_bytes m s.address s.content page
          ∙ f.no_permissions page (omega (arith, ge, some, order));
    }

all_runs : (low end : ℕ) (ls : List Load) (m : Memory) (from : ℕ) (rs : List Run) → AreLoads low end ls → AreRuns (is_touched ls) (permission_of ls) from rs → Filled ls m from → HasMemory ls (with_segments m (map (segment_of ls) rs))
all_runs low end ls m from [] h none f = record {
  byte = λ a. elim (cases_lt (a / page_size) from) [
    | inl before ↦ f.byte a before
    | inr past ↦ f.no_bytes a past ∙ sym (no_byte low end ls a h (none (a / page_size) past))
  ];
  permission = λ page. elim (cases_lt page from) [
    | inl before ↦ f.permission page before
    | inr past ↦ f.no_permissions page past ∙ sym (no_permission ls page (none page past))
  ];
}
all_runs low end ls m from (r ∷ rs) h g f = all_runs low end ls (with_segment m (segment_of ls r)) r.end rs h g.1 (one_run low end ls m from r h g.0 f)

empty : (ls : List Load) → Filled ls no_memory 0
empty ls = record {
  byte = λ a lt. absurd (omega arith);
  no_bytes = λ a _. value_at-no_values a;
  permission = λ page lt. absurd (omega arith);
  no_permissions = λ page _. value_at-no_values page;
}

pub booted : (bytes : List ℕ) (i : Image) (devices : Devices) (fuel : ℕ) → ElfOf bytes i → HasMemory (parts_of bytes) (top_of (boot i devices fuel)).memory
unfolding boot
booted bytes i devices fuel h =
    let loads = loads_are_sound bytes (none_missed (needs bytes) h.met) in
    let parts = are_parts 0 (loads_of bytes) (omega arith) loads.loads in
    rw (h.segments) (all_runs 0 (2 ^ 32) (parts_of bytes) no_memory 0 h.runs parts h.are_runs (empty (parts_of bytes)))
