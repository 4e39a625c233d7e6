-- The slots in use and their bases, and memories that keep no bytes of slots.
use Rattle.std.proofs.Common.{◌≡◌, ℕ, zero, suc, ◌+◌, ◌-◌, ◌*◌, ◌/◌, ◌%◌, ◌^◌, ◌<◌, Bool, true, false, cond, not, List, [], ◌∷◌, map, get_or, Some, None, Result, Ok, Err, refl, sym, ◌∙◌, ap, arith}
use Rattle.std.specs.Prelude.{IfOk, ◌&&◌, ◌==◌, codes}
use Rattle.std.specs.Int.{w32, from_le_bytes}
use Rattle.memory_model.specs.Memory.{Memory, byte_at}
use Rattle.file_model.specs.File.{File}
use Rattle.file_model.specs.Sizes.{first_address, slot_count, all_slots_size}
use Rattle.file_model.specs.Slots.{slot_at, slots_from, slots_of, file_at, is_in_use, slot_start, number_at}
use Rattle.file_model.specs.Reconcile.{with_bases, with_entries, base_entries, is_used, bits_of}
use Rattle.file_model.proofs.Marks.{bit_of_mark}
use Rattle.file_image.specs.Lookup.{HasFile}
use Rattle.file_image.proofs.Bases.{bases_pass, bases_end}
use Rattle.space_mem.specs.Held.{Held, AllZero}
use Rattle.space_model.specs.Files.{file_bytes, with_file_bytes, with_file_bases}
use Rattle.memory_files.specs.Slots.{KeepsRest, HasBits, has_slot, first_page, slot_page}
use Rattle.memory_files.specs.Laws.{keeps_itself}
use Rattle.memory_files.proofs.Results.{memory_is}

pub based : (h m n g : Held) → m ≡ h → g ≡ n → file_bytes n.memory ≡ with_bases (file_bytes m.memory) → KeepsRest m n → g.memory ≡ with_file_bases h.memory
unfolding with_file_bases
based h m n g taken back is kept =
    ap (λ (k : Held). k.memory) back ∙ memory_is m n (with_bases (file_bytes m.memory)) kept is
    ∙ ap (λ (k : Held). with_file_bytes k.memory (with_bases (file_bytes k.memory))) taken

-- ---- the slots in use

used_flag : (t : Bool) (f : File) → is_used (cond t (Some f) None) ≡ t
used_flag true f = refl
used_flag false f = refl

used_slot : (b : ℕ → ℕ) (k : ℕ) → is_used (slot_at b k) ≡ is_in_use b (slot_start k)
unfolding slot_at
used_slot b k = used_flag (is_in_use b (slot_start k)) (file_at b (slot_start k))

used_at : (b : ℕ → ℕ) (n k j : ℕ) → j < n → get_or (map is_used (slots_from b k n)) j false ≡ is_in_use b (slot_start (k + j))
unfolding slots_from
used_at b zero k j less = absurd (omega arith)
used_at b (suc n) k zero less = let e : k ≡ k + 0 = omega arith in used_slot b k ∙ ap (λ i. is_in_use b (slot_start i)) e
used_at b (suc n) k (suc j) less = let e : k + 1 + j ≡ k + suc j = omega arith in used_at b n (k + 1) j (omega arith) ∙ ap (λ i. is_in_use b (slot_start i)) e

used_bit : (b : ℕ → ℕ) (k : ℕ) → HasFile b k → bits_of (map is_used (slots_of b)) / 2 ^ k % 2 ≡ 1
used_bit b k file = bit_of_mark (map is_used (slots_of b)) k ∙ ap (λ t. cond t 1 0) (used_at b 64 0 k file.within ∙ ap (λ i. is_in_use b (slot_start i)) (omega arith) ∙ file.used)

pub used_has : {E : Type 0} (r : Result (List Bool) E) (m n : Held) (bits : ℕ) → n ≡ m → bits ≡ bits_of (map is_used (slots_of (file_bytes n.memory))) → IfOk r (λ slots. HasBits bits slots)
    → IfOk r (λ slots. (k : ℕ) → HasFile (file_bytes m.memory) k → has_slot slots k ≡ true)
used_has (Err e) m n bits same told has = tt
used_has (Ok slots) m n bits same told has = λ (k : ℕ) file. has k file.within (ap (λ i. i / 2 ^ k % 2) (told ∙ ap (λ (h : Held). bits_of (map is_used (slots_of (file_bytes h.memory)))) same) ∙ used_bit (file_bytes m.memory) k file)

is_set : (t : Bool) → ◌≡◌ {A = ℕ} (cond t 1 0) 1 → t ≡ true
is_set true e = refl
is_set false e = absurd (omega arith)

-- and a bit that is set is that of a slot in use
pub used_file : (m n : Held) (bits k : ℕ) → k < slot_count → n ≡ m → bits ≡ bits_of (map is_used (slots_of (file_bytes n.memory))) → bits / 2 ^ k % 2 ≡ 1 → HasFile (file_bytes m.memory) k
used_file m n bits k below same told bit =
    let b : ℕ → ℕ = file_bytes m.memory in
    let is : bits ≡ bits_of (map is_used (slots_of b)) = told ∙ ap (λ (h : Held). bits_of (map is_used (slots_of (file_bytes h.memory)))) same in
    record {
      within = below;
      used = sym (used_at b 64 0 k below ∙ ap (λ i. is_in_use b (slot_start i)) {x = 0 + k} {y = k} (omega arith)) ∙ is_set _ (sym (bit_of_mark (map is_used (slots_of b)) k) ∙ ap (λ i. i / 2 ^ k % 2) (sym is) ∙ bit);
    }

-- ---- no bytes of slots

zero_byte : (m : Memory) (a : ℕ) → AllZero m first_page (slot_page slot_count) → a < all_slots_size → file_bytes m a ≡ 0
zero_byte m a none within =
    let e : first_address + a ≡ 4096 * ((first_address + a) / 4096) + (first_address + a) % 4096 = omega arith in
    ap (byte_at m) e ∙ none ((first_address + a) / 4096) ((first_address + a) % 4096) (omega arith) (omega arith) (omega arith)

zero_number : (b : ℕ → ℕ) (at : ℕ) → b at ≡ 0 → b (at + 1) ≡ 0 → b (at + 2) ≡ 0 → b (at + 3) ≡ 0 → number_at b at ≡ 0
zero_number b at p q r s =
    ap (λ x. from_le_bytes w32 (x ∷ b (at + 1) ∷ b (at + 2) ∷ b (at + 3) ∷ [])) p ∙ ap (λ x. from_le_bytes w32 (0 ∷ x ∷ b (at + 2) ∷ b (at + 3) ∷ [])) q
    ∙ ap (λ x. from_le_bytes w32 (0 ∷ 0 ∷ x ∷ b (at + 3) ∷ [])) r ∙ ap (λ x. from_le_bytes w32 (0 ∷ 0 ∷ 0 ∷ x ∷ [])) s

no_mark : (n : ℕ) (p q r s : Bool) → n ≡ 0 → (n == from_le_bytes w32 (codes "DTF1") && p && q && r && s) ≡ false
no_mark n p q r s e = ap (λ k. k == from_le_bytes w32 (codes "DTF1") && p && q && r && s) e

pub none_used : (m : Memory) (k : ℕ) → AllZero m first_page (slot_page slot_count) → k < slot_count → is_in_use (file_bytes m) (slot_start k) ≡ false
none_used m k none below =
    no_mark (number_at (file_bytes m) (slot_start k)) _ _ _ _
    (zero_number (file_bytes m) (slot_start k) (zero_byte m (slot_start k) none (omega arith)) (zero_byte m (slot_start k + 1) none (omega arith))
    (zero_byte m (slot_start k + 2) none (omega arith)) (zero_byte m (slot_start k + 3) none (omega arith)))

no_bases : (b : ℕ → ℕ) (d k : ℕ) → k + d ≡ 64 → ((j : ℕ) → j < slot_count → is_in_use b (slot_start j) ≡ false) → with_entries b (base_entries k (slots_from b k (64 - k))) ≡ b
no_bases b zero k e free = bases_end b k 64 (omega arith)
no_bases b (suc d) k e free = bases_pass b k 64 (omega arith) (ap not (free k (omega arith))) ∙ no_bases b d (k + 1) (omega arith) free

pub none_based : (h : Held) → AllZero h.memory first_page (slot_page slot_count) → h.memory ≡ with_file_bases h.memory
unfolding with_file_bases
none_based h none =
    memory_is h h (file_bytes h.memory) (keeps_itself h) refl
    ∙ ap (with_file_bytes h.memory) (sym (no_bases (file_bytes h.memory) 64 0 (omega arith) (λ j below. none_used h.memory j none below)))
