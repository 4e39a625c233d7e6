-- A slot whose header has the same bytes is in use as the other, with the same file but for its content.
use Rattle.std.proofs.Common.{◌≡◌, ℕ, ◌+◌, ◌<◌, ◌≤◌, inl, inr, Bool, true, false, not, List, [], ◌∷◌, length, refl, ap, sym, ◌∙◌, arith}
use Rattle.std.specs.Prelude.{codes, nat_le, nat_lt, ◌&&◌, ◌==◌}
use Rattle.std.specs.Int.{w32, from_le_bytes}
use Rattle.std.specs.List.{list_any}
use Rattle.std.proofs.lemmas.Bool.{cases_lt}
use Rattle.std.proofs.lemmas.Bool.Decides.{nat_tests}
use Rattle.file_model.specs.Sizes.{greatest_length, greatest_name}
use Rattle.file_model.specs.File.{is_name}
use Rattle.file_model.specs.Slots.{number_at, bytes_from, name_at, is_in_use, file_at, has_append, has_conflicted, has_deleted}
use Rattle.file_model.proofs.Bytes.{length-bytes_from, same_bytes_from}
use Rattle.file_model.proofs.Lookups.{short_name}

-- bytes that are alike in the header of the slot that begins here
pub record AlikeHeader (b d : ℕ → ℕ) (s : ℕ) : Type 0 where
  pub byte : (o : ℕ) → o < 4096 → b (s + o) ≡ d (s + o)

number_same : (b d : ℕ → ℕ) (s o : ℕ) → AlikeHeader b d s → o + 4 ≤ 4096 → number_at b (s + o) ≡ number_at d (s + o)
number_same b d s o h l =
    let byte : (i : ℕ) → i < 4 → b (s + o + i) ≡ d (s + o + i) = λ i g. let e : s + o + i ≡ s + (o + i) = omega arith in ap b e ∙ h.byte (o + i) (omega arith) ∙ ap d (sym e) in
    let first : b (s + o) ≡ d (s + o) = h.byte o (omega arith) in
    λ i. from_le_bytes w32 (first i ∷ byte 1 (omega arith) i ∷ byte 2 (omega arith) i ∷ byte 3 (omega arith) i ∷ [])

mark_same : (b d : ℕ → ℕ) (s : ℕ) → AlikeHeader b d s → number_at b s ≡ number_at d s
mark_same b d s h = let z : s ≡ s + 0 = omega arith in ap (number_at b) z ∙ number_same b d s 0 h (omega arith) ∙ ap (number_at d) (sym z)

row_same : (b d : ℕ → ℕ) (s o n m : ℕ) → AlikeHeader b d s → o + n ≤ 4096 → n ≡ m → bytes_from b (s + o) n ≡ bytes_from d (s + o) m
row_same b d s o n m h l e =
    same_bytes_from b d (s + o) n (λ i g. let a : s + o + i ≡ s + (o + i) = omega arith in ap b a ∙ h.byte (o + i) (omega arith) ∙ ap d (sym a)) ∙ ap (bytes_from d (s + o)) e

no_and : (p q r : Bool) → q ≡ false → (p && q && r) ≡ false
no_and true false r e = refl
no_and false false r e = refl
no_and p true r e = cc

not_le : (a b : ℕ) → b < a → nat_le a b ≡ false
not_le a b h = grind (arith, nat_tests)

long_name : (name : List ℕ) → 32 < length name → is_name name ≡ false
long_name name h = no_and (nat_lt 0 (length name)) (nat_le (length name) greatest_name) (not (list_any (λ b. b == 0) name)) (not_le (length name) greatest_name h)

name_same : (b d : ℕ → ℕ) (s : ℕ) → AlikeHeader b d s → is_name (name_at b s) ≡ is_name (name_at d s)
name_same b d s h =
    let e : number_at b (s + 24) ≡ number_at d (s + 24) = number_same b d s 24 h (omega arith) in
    let p = length-bytes_from b (s + 28) (number_at b (s + 24)) in
    let q = length-bytes_from d (s + 28) (number_at d (s + 24)) in
    elim (cases_lt 32 (number_at b (s + 24))) [
      | inl l ↦ long_name (name_at b s) (omega (arith, p)) ∙ sym (long_name (name_at d s) (omega (arith, q, e)))
      | inr g ↦ ap is_name (row_same b d s 28 (number_at b (s + 24)) (number_at d (s + 24)) h (omega arith) e)
    ]

pub in_use_same : (b d : ℕ → ℕ) (s : ℕ) → AlikeHeader b d s → is_in_use b s ≡ is_in_use d s
in_use_same b d s h = λ i.
    mark_same b d s h i == from_le_bytes w32 (codes "DTF1")
    && nat_le (number_same b d s 12 h (omega arith) i) greatest_length
    && nat_le (number_same b d s 16 h (omega arith) i) greatest_length
    && nat_lt (number_same b d s 20 h (omega arith) i) 8
    && name_same b d s h i

-- ---- what a slot in use says of itself

last_of : (p q r s t : Bool) → (p && q && r && s && t) ≡ true → t ≡ true
last_of p q r s true h = refl
last_of true true true true false h = h
last_of false q r s false h = h
last_of true false r s false h = h
last_of true true false s false h = h
last_of true true true false false h = h

pub named_in_use : (b : ℕ → ℕ) (s : ℕ) → is_in_use b s ≡ true → is_name (name_at b s) ≡ true
named_in_use b s u =
    last_of (number_at b s == from_le_bytes w32 (codes "DTF1")) (nat_le (number_at b (s + 12)) greatest_length) (nat_le (number_at b (s + 16)) greatest_length) (nat_lt (number_at b (s + 20)) 8) (is_name (name_at b s)) u

-- the file is the same, but for its content
pub file_but_for_content : (b d : ℕ → ℕ) (s : ℕ) → AlikeHeader b d s → is_in_use b s ≡ true → (content : List ℕ) → content ≡ (file_at d s).content → record (file_at b s) { content = content } ≡ file_at d s
unfolding file_at
file_but_for_content b d s h u content own =
    let n = short_name b s (named_in_use b s u) in
    let flags : number_at b (s + 20) ≡ number_at d (s + 20) = number_same b d s 20 h (omega arith) in
    λ i. record {
      name = row_same b d s 28 (number_at b (s + 24)) (number_at d (s + 24)) h (omega (arith, n)) (number_same b d s 24 h (omega arith)) i;
      version = number_same b d s 4 h (omega arith) i;
      base = number_same b d s 8 h (omega arith) i;
      length_at_base = number_same b d s 16 h (omega arith) i;
      content = own i;
      append = has_append (flags i);
      conflicted = has_conflicted (flags i);
      deleted = has_deleted (flags i);
    }

pub content_same : (b d : ℕ → ℕ) (s : ℕ) → AlikeHeader b d s → ((j : ℕ) → j < number_at b (s + 12) → b (s + 4096 + j) ≡ d (s + 4096 + j)) → (file_at b s).content ≡ (file_at d s).content
unfolding file_at
content_same b d s h byte = same_bytes_from b d (s + 4096) (number_at b (s + 12)) byte ∙ ap (bytes_from d (s + 4096)) (number_same b d s 12 h (omega arith))
