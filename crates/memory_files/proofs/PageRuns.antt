-- Bytes of slots that are read or written at once.
use Rattle.std.proofs.Common.{◌≡◌, ℕ, zero, suc, ◌+◌, ◌-◌, ◌*◌, ◌/◌, ◌%◌, ◌<◌, ◌≤◌, ◌⊎◌, inl, inr, Bool, List, [], ◌∷◌, length, replicate, refl, sym, ◌∙◌, ap, arith, Option, Some, None, Bor}
use Rattle.std.specs.Prelude.{slice_index, IfSome}
use Rattle.std.proofs.lemmas.Bool.{cases_lt}
use Rattle.std.proofs.lemmas.List.{get_or-replicate, length-replicate}
use Rattle.memory_model.specs.Sparse.{value_at}
use Rattle.memory_model.specs.Memory.{Memory, byte_at, bytes_from, with_byte, with_bytes}
use Rattle.memory_model.specs.Ranges.{IsZeroPage}
use Rattle.memory_model.proofs.Runs.{byte_at-with_bytes, byte_at-with_bytes_out}
use Rattle.file_model.specs.Sizes.{first_address, all_slots_size}
use Rattle.file_model.specs.Slots as slots
use Rattle.file_model.proofs.Bytes.{with_bytes_inside, with_bytes_before, with_bytes_after}
use Rattle.space_model.specs.Files.{file_bytes}
use Rattle.space_mem.specs.Held.{Held, KeepsMarks, Marks, Owns}
use Rattle.space_mem.proofs.Kept.{keeps_memory}
use Rattle.space_mem.proofs.Strings.{bytes_from_is}
use Rattle.memory_files.specs.Slots.{KeepsRest, OwnsParts, OwnsSlots}

-- ---- reading

-- bytes of a page of which none are kept
pub zeros_row : (m : Memory) (at count : ℕ) → IsZeroPage m (at / 4096) → at % 4096 + count ≤ 4096 → replicate {A = ℕ} count 0 ≡ bytes_from m at count
zeros_row m at count page within = bytes_from_is m at count (replicate count 0) (length-replicate {A = ℕ} count 0) (λ k below.
    let e : at + k ≡ 4096 * (at / 4096) + (at % 4096 + k) = omega arith in
    ap (byte_at m) e ∙ page (at % 4096 + k) (omega arith) ∙ sym (get_or-replicate {A = ℕ} count k 0 0 below))

-- bytes of a memory, counted from where slot 0 begins
pub row_of_slots : (m : Memory) (offset n : ℕ) → bytes_from m (first_address + offset) n ≡ slots.bytes_from (file_bytes m) offset n
unfolding slots.bytes_from
row_of_slots m offset zero = refl
row_of_slots m offset (suc n) =
    let e : first_address + offset + 1 ≡ first_address + (offset + 1) = omega arith in
    ap (λ xs. byte_at m (first_address + offset) ∷ xs) (ap (λ a. bytes_from m a n) e ∙ row_of_slots m (offset + 1) n)

-- the same of a slice, where there is one
pub lent_of_slots : (r : Option (Bor (List ℕ))) (m : Memory) (offset n : ℕ) → IfSome r (λ run. run.now ≡ bytes_from m (first_address + offset) n) → IfSome r (λ run. run.now ≡ slots.bytes_from (file_bytes m) offset n)
lent_of_slots None m offset n is = tt
lent_of_slots (Some run) m offset n is = is ∙ row_of_slots m offset n

-- ---- writing

within_run : (m : Memory) (at : ℕ) (run : List ℕ) (a : ℕ) → at ≤ a → a < at + length run → byte_at (with_bytes m at run) a ≡ slice_index run (a - at)
within_run m at run a low high =
    let e : a ≡ at + (a - at) = omega arith in
    ap (byte_at (with_bytes m at run)) e ∙ byte_at-with_bytes m at run (a - at) (omega arith)

-- a run that is written into memory, counted from where slot 0 begins
pub run_in_slots : (m : Memory) (offset : ℕ) (run : List ℕ) (a : ℕ) → byte_at (with_bytes m (first_address + offset) run) (first_address + a) ≡ slots.with_bytes (file_bytes m) offset run a
run_in_slots m offset run a = elim (cases_lt a offset) [
  | inl before ↦ byte_at-with_bytes_out m (first_address + offset) run (first_address + a) (λ l. omega arith) ∙ sym (with_bytes_before (file_bytes m) offset run a before)
  | inr from ↦ elim (cases_lt a (offset + length run)) [
    | inl inside ↦
        let e : first_address + a - (first_address + offset) ≡ a - offset = omega arith in
        within_run m (first_address + offset) run (first_address + a) (omega arith) (omega arith) ∙ ap (slice_index run) e ∙ sym (with_bytes_inside (file_bytes m) offset run a from inside)
    | inr behind ↦ byte_at-with_bytes_out m (first_address + offset) run (first_address + a) (λ l. omega arith) ∙ sym (with_bytes_after (file_bytes m) offset run a behind)
  ]
]

-- a write leaves permissions
pub permissions_after : (m : Memory) (at : ℕ) (run : List ℕ) → (with_bytes m at run).permissions ≡ m.permissions
permissions_after m at [] = refl
permissions_after m at (b ∷ run) = permissions_after (with_byte m at b) (at + 1) run

-- ---- which pages are owned and dirty

-- slots that are owned stay so
pub still_owned : (h g : Held) (n : ℕ) (slots : List Bool) → ((page : ℕ) → KeepsMarks h g page) → OwnsSlots h n slots → OwnsSlots g n slots
still_owned h g n slots kept owned k ready page low high = (kept page).owned ∙ owned k ready page low high

pub parts_still_owned : (h g : Held) (slots : List Bool) (whole : List ℕ) → ((page : ℕ) → KeepsMarks h g page) → OwnsParts h slots whole → OwnsParts g slots whole
parts_still_owned h g slots whole kept owned k ready page low high = (kept page).owned ∙ owned k ready page low high

-- bytes beside a run that is written
pub run_beside : (b : ℕ → ℕ) (offset : ℕ) (run : List ℕ) (a : ℕ) → (a < offset) ⊎ (offset + length run ≤ a) → slots.with_bytes b offset run a ≡ b a
run_beside b offset run a out = elim out [ inl before ↦ with_bytes_before b offset run a before | inr behind ↦ with_bytes_after b offset run a behind ]

-- and so does all but the bytes of slots
pub rest_after : (h g : Held) (offset : ℕ) (run : List ℕ) → offset + length run ≤ all_slots_size → g ≡ record h { memory = with_bytes h.memory (first_address + offset) run } → Marks h g → KeepsRest h g
rest_after h g offset run within is marks = record {
  permissions = ap (λ x. x.memory.permissions) is ∙ permissions_after h.memory (first_address + offset) run;
  elsewhere = λ a out. ap (λ x. byte_at x.memory a) is ∙ byte_at-with_bytes_out h.memory (first_address + offset) run a (λ l. elim out [ inl before ↦ absurd (omega arith) | inr behind ↦ omega arith ]);
  kept = λ page. keeps_memory h g _ page is;
  marks = marks;
}

-- bytes of one page are in a page that is owned
pub same_page : (h : Held) (at n : ℕ) → at % 4096 + n ≤ 4096 → Owns h (at / 4096) → (k : ℕ) → k < n → Owns h ((at + k) / 4096)
same_page h at n within owned k below = ap (value_at h.owned) {x = (at + k) / 4096} {y = at / 4096} (omega arith) ∙ owned
