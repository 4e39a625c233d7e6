-- Writing a slot leaves the others as they were, and so all 64 are known.
use Rattle.std.proofs.Common.{◌≡◌, ℕ, zero, suc, ◌+◌, ◌<◌, ◌≤◌, Bool, true, false, cond, ◌∷◌, length, refl, ap, sym, ◌∙◌, arith, Some, None}
use Rattle.std.specs.Prelude.{codes, nat_le, nat_lt, ◌&&◌, ◌==◌, slice_set}
use Rattle.std.specs.Int.{w32, from_le_bytes}
use Rattle.std.proofs.lemmas.Bool.Decides.{nat_tests}
use Rattle.file_model.specs.Sizes.{greatest_length}
use Rattle.file_model.specs.File.{File, IsFile, is_name}
use Rattle.file_model.specs.Slots.{number_at, name_at, is_in_use, file_at, slot_at, slots_from, slots_of, slot_start, with_bytes, header_bytes, with_slot}
use Rattle.file_model.proofs.Bytes.{with_bytes_before, with_bytes_after}
use Rattle.file_model.proofs.Headers.{length-header}
use Rattle.file_model.proofs.Lookups.{short_content}
use Rattle.file_model.proofs.ReadingBack.{slot_read}
use Rattle.file_model.proofs.SlotHeaders.{AlikeHeader, in_use_same, file_but_for_content, content_same}

-- bytes that are alike in the slot that begins here
record Alike (b d : ℕ → ℕ) (s : ℕ) : Type 0 where
  byte : (o : ℕ) → o < 65536 → b (s + o) ≡ d (s + o)

header : (b d : ℕ → ℕ) (s : ℕ) → Alike b d s → AlikeHeader b d s
header b d s h = record { byte = λ o l. h.byte o (omega arith) }

third_of : (p q r s t : Bool) → (p && q && r && s && t) ≡ true → r ≡ true
third_of p q true s t h = refl
third_of true true false s t h = h
third_of false q false s t h = h
third_of true false false s t h = h

-- the length at base of a slot in use is short
pub short_base : (b : ℕ → ℕ) (s : ℕ) → is_in_use b s ≡ true → number_at b (s + 16) ≤ greatest_length
short_base b s u = let l : nat_le (number_at b (s + 16)) greatest_length ≡ true = third_of (number_at b s == from_le_bytes w32 (codes "DTF1")) (nat_le (number_at b (s + 12)) greatest_length) (nat_le (number_at b (s + 16)) greatest_length) (nat_lt (number_at b (s + 20)) 8) (is_name (name_at b s)) u in grind (arith, nat_tests)

file_same : (b d : ℕ → ℕ) (s : ℕ) → Alike b d s → is_in_use b s ≡ true → file_at b s ≡ file_at d s
file_same b d s h u =
    let c = short_content b s u in
    file_but_for_content b d s (header b d s h) u (file_at b s).content
    (content_same b d s (header b d s h) (λ j l. let e : s + 4096 + j ≡ s + (4096 + j) = omega arith in ap b e ∙ h.byte (4096 + j) (omega (arith, c, l)) ∙ ap d (sym e)))

chosen_same : (t u : Bool) (f g : File) → t ≡ u → (t ≡ true → f ≡ g) → cond t (Some f) None ≡ cond u (Some g) None
chosen_same true true f g e h = ap Some (h refl)
chosen_same true false f g e h = cc
chosen_same false true f g e h = cc
chosen_same false false f g e h = refl

slot_same : (b d : ℕ → ℕ) (k : ℕ) → Alike b d (slot_start k) → slot_at b k ≡ slot_at d k
unfolding slot_at
slot_same b d k h =
    chosen_same (is_in_use b (slot_start k)) (is_in_use d (slot_start k)) (file_at b (slot_start k)) (file_at d (slot_start k))
    (in_use_same b d (slot_start k) (header b d (slot_start k) h)) (file_same b d (slot_start k) h)

-- ---- another slot

lower_byte : (b : ℕ → ℕ) (k : ℕ) (f : File) (j o : ℕ) → j < k → o < 65536 → with_slot b k f (slot_start j + o) ≡ b (slot_start j + o)
unfolding with_slot
lower_byte b k f j o l h =
    with_bytes_before (with_bytes b (slot_start k) (header_bytes f)) (slot_start k + 4096) f.content (slot_start j + o) (omega arith)
    ∙ with_bytes_before b (slot_start k) (header_bytes f) (slot_start j + o) (omega arith)

higher_byte : (b : ℕ → ℕ) (k : ℕ) (f : File) (j o : ℕ) → IsFile f → k < j → with_slot b k f (slot_start j + o) ≡ b (slot_start j + o)
unfolding with_slot
higher_byte b k f j o i l =
    let n = length-header f i.named in
    let c = i.long in
    with_bytes_after (with_bytes b (slot_start k) (header_bytes f)) (slot_start k + 4096) f.content (slot_start j + o) (omega (arith, c))
    ∙ with_bytes_after b (slot_start k) (header_bytes f) (slot_start j + o) (omega (arith, n))

pub slot_lower : (b : ℕ → ℕ) (k : ℕ) (f : File) (j : ℕ) → j < k → slot_at (with_slot b k f) j ≡ slot_at b j
slot_lower b k f j l = slot_same (with_slot b k f) b j (record { byte = λ o h. lower_byte b k f j o l h })

pub slot_higher : (b : ℕ → ℕ) (k : ℕ) (f : File) (j : ℕ) → IsFile f → k < j → slot_at (with_slot b k f) j ≡ slot_at b j
slot_higher b k f j i l = slot_same (with_slot b k f) b j (record { byte = λ o h. higher_byte b k f j o i l })

-- whether a higher slot is in use
pub in_use_higher : (b : ℕ → ℕ) (k : ℕ) (f : File) (j : ℕ) → IsFile f → k < j → is_in_use (with_slot b k f) (slot_start j) ≡ is_in_use b (slot_start j)
in_use_higher b k f j i l = in_use_same (with_slot b k f) b (slot_start j) (header (with_slot b k f) b (slot_start j) (record { byte = λ o h. higher_byte b k f j o i l }))

-- ---- all slots

pub slots_behind : (b : ℕ → ℕ) (k : ℕ) (f : File) (j n : ℕ) → IsFile f → k < j → slots_from (with_slot b k f) j n ≡ slots_from b j n
unfolding slots_from
slots_behind b k f j zero i l = refl
slots_behind b k f j (suc n) i l =
    let first : slot_at (with_slot b k f) j ≡ slot_at b j = slot_higher b k f j i l in
    let rest : slots_from (with_slot b k f) (j + 1) n ≡ slots_from b (j + 1) n = slots_behind b k f (j + 1) n i (omega arith) in
    λ t. first t ∷ rest t

slots_with : (b : ℕ → ℕ) (k : ℕ) (f : File) (j n m : ℕ) → IsFile f → k ≡ j + m → slots_from (with_slot b k f) j n ≡ slice_set (slots_from b j n) m (Some f)
unfolding slots_from
slots_with b k f j zero zero i e = refl
slots_with b k f j zero (suc m) i e = refl
slots_with b k f j (suc n) zero i e =
    let s : j ≡ k = omega arith in
    let first : slot_at (with_slot b k f) j ≡ Some f = ap (slot_at (with_slot b k f)) s ∙ slot_read b k f i in
    let rest : slots_from (with_slot b k f) (j + 1) n ≡ slots_from b (j + 1) n = slots_behind b k f (j + 1) n i (omega arith) in
    λ t. first t ∷ rest t
slots_with b k f j (suc n) (suc m) i e =
    let first : slot_at (with_slot b k f) j ≡ slot_at b j = slot_lower b k f j (omega arith) in
    let rest : slots_from (with_slot b k f) (j + 1) n ≡ slice_set (slots_from b (j + 1) n) m (Some f) = slots_with b k f (j + 1) n m i (omega arith) in
    λ t. first t ∷ rest t

-- the slots after one was written
pub slots_written : (b : ℕ → ℕ) (k : ℕ) (f : File) → IsFile f → slots_of (with_slot b k f) ≡ slice_set (slots_of b) k (Some f)
slots_written b k f i = slots_with b k f 0 64 k i (omega arith)
