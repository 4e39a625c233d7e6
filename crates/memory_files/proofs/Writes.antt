-- A byte that is written in a slot.
use Rattle.std.proofs.Common.{◌≡◌, ℕ, ◌+◌, ◌/◌, ◌%◌, ◌<◌, ◌≤◌, ◌==◌, ◌⊎◌, Bool, true, false, cond, if◌then◌else◌, List, get_or, ◌∙◌, ap, arith, inl, inr}
use Rattle.std.proofs.lemmas.Bool.{cases_eq, cases_lt}
use Rattle.std.proofs.lemmas.Bool.Decides.{nat_tests}
use Rattle.memory_model.specs.Sparse.{put, value_at, value_at-put}
use Rattle.memory_model.specs.Memory.{byte_at, with_byte}
use Rattle.memory_model.proofs.Rows.{value_at-put_same, value_at-put_other}
use Rattle.memory_model.proofs.Runs.{byte_at-with_byte_other}
use Rattle.file_model.specs.Sizes.{first_address, slot_size, all_slots_size, content_offset}
use Rattle.space_model.specs.Files.{file_bytes}
use Rattle.space_mem.specs.Held.{Held, Owns, Marks, with_written}
use Rattle.space_mem.proofs.Kept.{keeps_memory}
use Rattle.file_model.specs.Slots.{slot_start}
use Rattle.file_image.specs.Spared.{spared_in}
use Rattle.memory_files.specs.Slots.{AreFew, OwnsParts, OwnsSlots, KeepsRest, has_slot}

-- the page of an offset in a part of a slot that is owned, or in its header
pub slot_owner : (h : Held) (slots headers : List Bool) (whole : List ℕ) (offset : ℕ) → OwnsParts h slots whole → OwnsSlots h 1 headers → has_slot headers (offset / slot_size) ≡ true
    → (content_offset ≤ offset % slot_size → has_slot slots (offset / slot_size) ≡ true) → (content_offset ≤ offset % slot_size → content_offset + spared_in whole (offset / slot_size) ≤ offset % slot_size) → Owns h ((first_address + offset) / 4096)
slot_owner h slots headers whole offset owned headed header content beyond = elim (cases_lt (offset % slot_size) content_offset) [
  | inl low ↦ headed (offset / slot_size) header ((first_address + offset) / 4096) (omega arith) (omega arith)
  | inr high ↦ (let past = beyond high in owned (offset / slot_size) (content high) ((first_address + offset) / 4096) (omega (arith, past)) (omega arith))
]

-- a write beside the bytes that are spared leaves them
pub spared_after : (b c : ℕ → ℕ) (whole : List ℕ) (offset n : ℕ) → AreFew whole → ((a : ℕ) → (a < offset) ⊎ (offset + n ≤ a) → c a ≡ b a) → offset % 4096 + n ≤ 4096
    → (content_offset ≤ offset % slot_size → content_offset + spared_in whole (offset / slot_size) ≤ offset % slot_size) → (k i : ℕ) → i < spared_in whole k → c (slot_start k + content_offset + i) ≡ b (slot_start k + content_offset + i)
spared_after b c whole offset n few out page beyond k i below =
    let a = slot_start k + content_offset + i in
    let least = few k in
    elim (cases_lt a offset) [
      | inl before ↦ out a (inl before)
      | inr from ↦ elim (cases_lt a (offset + n)) [
        | inl inside ↦
            let e : offset / slot_size ≡ k = omega (arith, least, below, page, from, inside) in
            let w : get_or whole (offset / slot_size) 0 ≡ get_or whole k 0 = ap (λ j. get_or whole j 0) e in
            let past = beyond (omega (arith, least, below, page, from, inside)) in
            absurd (omega (arith, least, below, page, from, inside, e, w, past))
        | inr behind ↦ out a (inr behind)
      ]
    ]

still_owned : (h : Held) (page v : ℕ) (q : ℕ) → Owns h q → value_at (put h.owned page 1) q ≡ 1
still_owned h page v q owned = elim (cases_eq q page) [
  | inl here ↦ ap (value_at (put h.owned page 1)) here ∙ value_at-put_same h.owned page 1
  | inr other ↦ value_at-put_other h.owned page 1 q other ∙ owned
]

-- parts of slots that are owned stay so
pub parts_after : (h g : Held) (a v : ℕ) (slots : List Bool) (whole : List ℕ) → g ≡ with_written h a v → OwnsParts h slots whole → OwnsParts g slots whole
parts_after h g a v slots whole is owned k ready page low high = ap (λ x. value_at x.owned page) is ∙ still_owned h (a / 4096) v page (owned k ready page low high)

-- slots that are owned stay so
pub owned_after : (h g : Held) (a v n : ℕ) (slots : List Bool) → g ≡ with_written h a v → OwnsSlots h n slots → OwnsSlots g n slots
owned_after h g a v n slots is owned k ready page low high = ap (λ x. value_at x.owned page) is ∙ still_owned h (a / 4096) v page (owned k ready page low high)

pub rest_kept : (h g : Held) (offset v : ℕ) → offset < all_slots_size → g ≡ with_written h (first_address + offset) v → g ≡ record h { memory = with_byte h.memory (first_address + offset) v } → Marks h g → KeepsRest h g
rest_kept h g offset v within is place marks = record {
  permissions = ap (λ x. x.memory.permissions) is;
  elsewhere = λ a out. ap (λ x. byte_at x.memory a) is ∙ byte_at-with_byte_other h.memory (first_address + offset) v a (λ e. elim out [ inl before ↦ omega arith | inr after ↦ omega arith ]);
  kept = λ page. keeps_memory h g _ page place;
  marks = marks;
}

same_offset : (a offset : ℕ) → (first_address + a == first_address + offset) ≡ (a == offset)
same_offset a offset = grind (arith, nat_tests)

pub byte_written : (h g : Held) (offset v a : ℕ) → g ≡ with_written h (first_address + offset) v → file_bytes g.memory a ≡ (if a == offset then v else file_bytes h.memory a)
byte_written h g offset v a is =
    ap (λ x. byte_at x.memory (first_address + a)) is ∙ value_at-put h.memory.bytes (first_address + offset) v (first_address + a)
    ∙ ap (λ b. cond b v (file_bytes h.memory a)) (same_offset a offset)

test_other : (a b : ℕ) → (a ≡ b → ⊥) → (a == b) ≡ false
test_other a b other = grind (arith, nat_tests)

pub byte_beside : (h g : Held) (offset v a : ℕ) → g ≡ with_written h (first_address + offset) v → (a < offset) ⊎ (offset + 1 ≤ a) → file_bytes g.memory a ≡ file_bytes h.memory a
byte_beside h g offset v a is out = byte_written h g offset v a is ∙ ap (λ b. cond b v (file_bytes h.memory a)) (test_other a offset (λ e. elim out [ inl before ↦ omega arith | inr behind ↦ omega arith ]))
