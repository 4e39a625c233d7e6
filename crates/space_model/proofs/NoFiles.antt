-- A memory that nothing was ever written to has no files, so nothing is taken over from it, and none of its files is left out.
use Rattle.std.proofs.Common.{◌≡◌, ℕ, zero, suc, ◌+◌, ◌-◌, ◌==◌, ◌&&◌, false, List, [], ◌∷◌, Option, Some, None, refl, ◌∙◌, ap, arith, inl, inr}
use Rattle.std.proofs.lemmas.Bool.{cases_lt}
use Rattle.std.specs.Prelude.{codes, nat_lt, nat_le, if◌then◌else◌}
use Rattle.std.specs.Int.{w32, from_le_bytes}
use Rattle.memory_model.specs.Sparse.{Sparse, value_at, value_at-no_values}
use Rattle.memory_model.specs.Memory.{Memory, no_memory, same_memory}
use Rattle.memory_model.specs.Ranges.{with_row}
use Rattle.memory_model.proofs.Rows.{value_at-row_before, value_at-row_key, value_at-row_after}
use Rattle.file_model.specs.File.{File, is_name}
use Rattle.file_model.specs.Sizes.{first_address, all_slots_size, greatest_length}
use Rattle.file_model.specs.Slots.{number_at, name_at, is_in_use, file_at, slot_at, slots_from, slot_start, length_offset, length_at_base_offset, flags_offset}
use Rattle.file_model.specs.Reconcile.{Reconciliation, shown_from, shown_files, reconcile_files, with_entries}
use Rattle.space_model.specs.Files.{file_bytes, with_file_bytes, files_in, with_files_of, files_left_out}

-- ---- bytes that are all 0 have no slot in use

abbrev AreZero : (ℕ → ℕ) → Type 0
AreZero bytes = (offset : ℕ) → bytes offset ≡ 0

zero_number : (b : ℕ → ℕ) (at : ℕ) → AreZero b → number_at b at ≡ 0
zero_number b at are =
    ap (λ x. from_le_bytes w32 (x ∷ b (at + 1) ∷ b (at + 2) ∷ b (at + 3) ∷ [])) (are at)
    ∙ ap (λ x. from_le_bytes w32 (0 ∷ x ∷ b (at + 2) ∷ b (at + 3) ∷ [])) (are (at + 1))
    ∙ ap (λ x. from_le_bytes w32 (0 ∷ 0 ∷ x ∷ b (at + 3) ∷ [])) (are (at + 2))
    ∙ ap (λ x. from_le_bytes w32 (0 ∷ 0 ∷ 0 ∷ x ∷ [])) (are (at + 3))

-- it lacks the mark
zero_unused : (b : ℕ → ℕ) (at : ℕ) → AreZero b → is_in_use b at ≡ false
zero_unused b at are =
    ap (λ n. n == from_le_bytes w32 (codes "DTF1")
    && nat_le (number_at b (at + length_offset)) greatest_length
    && nat_le (number_at b (at + length_at_base_offset)) greatest_length
    && nat_lt (number_at b (at + flags_offset)) 8
    && is_name (name_at b at)) (zero_number b at are)

zero_slot : (b : ℕ → ℕ) (k : ℕ) → AreZero b → slot_at b k ≡ None
unfolding slot_at
zero_slot b k are = ap (λ used. if used then Some (file_at b (slot_start k)) else None) (zero_unused b (slot_start k) are)

none_shown : (all : List (Option File)) (b : ℕ → ℕ) (j k n : ℕ) → AreZero b → shown_from all j (slots_from b k n) ≡ []
unfolding shown_from slots_from
none_shown all b j k zero are = refl
none_shown all b j k (suc n) are =
    ap (λ o. shown_from all j (o ∷ slots_from b (k + 1) n)) (zero_slot b k are) ∙ none_shown all b (j + 1) (k + 1) n are

no_files : shown_files (files_in no_memory) ≡ []
no_files = none_shown (files_in no_memory) (file_bytes no_memory) 0 0 64 (λ offset. value_at-no_values (first_address + offset))

-- ---- a memory stays where its own bytes are written again

row_again : (t : Sparse) (key n q : ℕ) → value_at (with_row t key (λ k. value_at t (key + k)) n) q ≡ value_at t q
row_again t key n q = elim (cases_lt q key) [
  | inl before ↦ value_at-row_before t key (λ k. value_at t (key + k)) n q before
  | inr from ↦ elim (cases_lt q (key + n)) [
    | inl inside ↦ value_at-row_key t key (λ k. value_at t (key + k)) n q from inside ∙ (let here : key + (q - key) ≡ q = omega arith in ap (value_at t) here)
    | inr after ↦ value_at-row_after t key (λ k. value_at t (key + k)) n q after
  ]
]

written_again : (m : Memory) → with_file_bytes m (file_bytes m) ≡ m
written_again m = same_memory (with_file_bytes m (file_bytes m)) m (λ a. row_again m.bytes first_address all_slots_size a) (λ p. refl)

-- ---- what a parent takes over

-- a parent's files before any of a child's
abbrev at_first : Memory → Reconciliation
at_first m = record { slots = files_in m; edits = []; left_out = 0 }

pub none_taken_over : (m : Memory) → with_files_of no_memory m ≡ m
unfolding with_files_of reconcile_files with_entries
none_taken_over m = ap (λ cs. with_file_bytes m (with_entries (file_bytes m) (reconcile_files (at_first m) cs).edits)) no_files ∙ written_again m

pub none_left_out : (m : Memory) → files_left_out no_memory m ≡ 0
unfolding files_left_out reconcile_files
none_left_out m = ap (λ cs. (reconcile_files (at_first m) cs).left_out) no_files
