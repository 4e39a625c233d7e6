-- What a call leaves, from the bytes of its slots and from what stays.
use Rattle.std.proofs.Common.{◌≡◌, ℕ, ◌+◌, ◌-◌, Result, Ok, Err, refl, sym, ◌∙◌, ap, arith, inl, inr, subst}
use Rattle.std.proofs.lemmas.Bool.{cases_lt}
use Rattle.memory_model.specs.Memory.{Memory, byte_at, same_memory}
use Rattle.memory_model.specs.Sparse.{value_at}
use Rattle.memory_model.proofs.Rows.{value_at-row_before, value_at-row_after, value_at-row_key}
use Rattle.file_model.specs.declared.FileError.{FileError}
use Rattle.file_model.specs.Sizes.{first_address, all_slots_size}
use Rattle.file_model.specs.Slots.{with_slot}
use Rattle.file_model.specs.Operations.{Entry}
use Rattle.file_image.specs.Writes.{Applies}
use Rattle.space_mem.specs.Held.{Held, KeepsMarks, Marks}
use Rattle.space_model.specs.Files.{file_bytes, with_file_bytes, change_result}
use Rattle.space_model.specs.declared.FileAnswer.{FileAnswer}
use Rattle.space_model.specs.declared.FileAnswer.TheVariants.{Refused}
use Rattle.memory_files.specs.Slots.{KeepsRest}
use Rattle.memory_files.specs.Answers.{IsResult, change_answer}

byte_is : (h g : Held) (f : ℕ → ℕ) → KeepsRest h g → file_bytes g.memory ≡ f → (a : ℕ) → byte_at g.memory a ≡ byte_at (with_file_bytes h.memory f) a
byte_is h g f kept is a = elim (cases_lt a first_address) [
  | inl before ↦ kept.elsewhere a (inl before) ∙ sym (value_at-row_before h.memory.bytes first_address f all_slots_size a before)
  | inr from ↦ elim (cases_lt a (first_address + all_slots_size)) [
    | inl to ↦
        (let back : a ≡ first_address + (a - first_address) = omega arith in
        ap (byte_at g.memory) back ∙ ap (λ k. k (a - first_address)) is ∙ sym (value_at-row_key h.memory.bytes first_address f all_slots_size a from to))
    | inr after ↦ kept.elsewhere a (inr after) ∙ sym (value_at-row_after h.memory.bytes first_address f all_slots_size a after)
  ]
]

-- the bytes of the slots, and nothing else, are others
pub memory_is : (h g : Held) (f : ℕ → ℕ) → KeepsRest h g → file_bytes g.memory ≡ f → g.memory ≡ with_file_bytes h.memory f
memory_is h g f kept is = same_memory g.memory (with_file_bytes h.memory f) (byte_is h g f kept is) (λ p. ap (λ s. value_at s p) kept.permissions)

same_byte : (h g : Held) → KeepsRest h g → file_bytes g.memory ≡ file_bytes h.memory → (a : ℕ) → byte_at g.memory a ≡ byte_at h.memory a
same_byte h g kept is a = elim (cases_lt a first_address) [
  | inl before ↦ kept.elsewhere a (inl before)
  | inr from ↦ elim (cases_lt a (first_address + all_slots_size)) [
    | inl to ↦
        (let back : a ≡ first_address + (a - first_address) = omega arith in
        ap (byte_at g.memory) back ∙ ap (λ k. k (a - first_address)) is ∙ ap (byte_at h.memory) (sym back))
    | inr after ↦ kept.elsewhere a (inr after)
  ]
]

-- no byte of a slot is another
pub memory_same : (h g : Held) → KeepsRest h g → file_bytes g.memory ≡ file_bytes h.memory → g.memory ≡ h.memory
memory_same h g kept is = same_memory g.memory h.memory (same_byte h g kept is) (λ p. ap (λ s. value_at s p) kept.permissions)

changed_here : {A : Type 0} (h g : Held) (r : Result Entry FileError) (x : Result A FileError) → Applies r x (file_bytes h.memory) (file_bytes g.memory) → KeepsRest h g → IsResult (change_result h.memory r) (change_answer x) h g
changed_here h g (Ok e) (Ok v) applied kept = record { answer = refl; memory = memory_is h g (with_slot (file_bytes h.memory) e.slot e.file) kept applied; kept = kept.kept; marks = kept.marks }
changed_here h g (Ok e) (Err f) applied kept = absurd applied
changed_here h g (Err e) (Ok v) applied kept = absurd applied
changed_here h g (Err e) (Err f) applied kept = record { answer = ap (λ (z : FileError). Refused z) applied.0; memory = memory_same h g kept applied.1; kept = kept.kept; marks = kept.marks }

kept_back : (h n g : Held) → g ≡ n → ((page : ℕ) → KeepsMarks h n page) → (page : ℕ) → KeepsMarks h g page
kept_back h n g back kept page = subst (λ k. KeepsMarks h k page) (sym back) (kept page)

-- which pages are owned and dirty, in a memory that was taken out of its place and put back
pub rest_kept : (h m n g : Held) → m ≡ h → g ≡ n → KeepsRest m n → (page : ℕ) → KeepsMarks h g page
rest_kept h m n g taken back kept = kept_back h n g back (λ page. subst (λ k. KeepsMarks k n page) taken (kept.kept page))

-- a call that changes a file, on a memory that was taken out of its place and put back
pub changed : {A : Type 0} (h m n g : Held) (r : Memory → Result Entry FileError) (x : Result A FileError) (a : FileAnswer) → m ≡ h → g ≡ n → a ≡ change_answer x
    → Applies (r m.memory) x (file_bytes m.memory) (file_bytes n.memory) → KeepsRest m n → IsResult (change_result h.memory (r h.memory)) a h g
changed h m n g r x a taken back answer applied kept =
    let base : IsResult (change_result h.memory (r h.memory)) (change_answer x) h n = subst (λ k. IsResult (change_result k.memory (r k.memory)) (change_answer x) k n) taken (changed_here m n (r m.memory) x applied kept) in
    record { answer = answer ∙ base.answer; memory = ap (λ (k : Held). k.memory) back ∙ base.memory; kept = kept_back h n g back base.kept; marks = subst (Marks h) (sym back) base.marks }
