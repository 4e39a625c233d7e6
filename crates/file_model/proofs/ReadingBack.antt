-- A slot reads back what was written into it, and the other slots are as they were.
use Rattle.std.proofs.Common.{◌≡◌, ℕ, ◌+◌, ◌-◌, ◌<◌, ◌≤◌, ◌^◌, Bool, true, false, cond, [], ◌∷◌, ◌++◌, length, get_or, refl, ap, ◌∙◌, arith, Some, None}
use Rattle.std.specs.Prelude.{codes, replicate, nat_le, nat_lt, ◌&&◌, ◌==◌}
use Rattle.std.specs.Int.{w32, to_le_bytes, from_le_bytes}
use Rattle.std.proofs.lemmas.Bool.Decides.{nat_tests}
use Rattle.std.proofs.lemmas.List.{ext_get_or, get_or_append_left, get_or-append-add}
use Rattle.std.proofs.lemmas.Nat.{from_le_bytes-to_le_bytes_4}
use Rattle.file_model.specs.Sizes.{greatest_length}
use Rattle.file_model.specs.File.{File, IsFile, is_name}
use Rattle.file_model.specs.Slots.{number_at, bytes_from, name_at, is_in_use, file_at, slot_at, slot_start, with_bytes, header_bytes, with_padding, with_slot, flags_of, has_append, has_conflicted, has_deleted}
use Rattle.file_model.proofs.Bytes.{length-bytes_from, index-bytes_from, with_bytes_inside, with_bytes_before}
use Rattle.file_model.proofs.Headers.{length-header, name_short}

-- ---- the bytes of a slot with a file

header_byte : (b : ℕ → ℕ) (k : ℕ) (f : File) (o : ℕ) → is_name f.name ≡ true → o < 60 → with_slot b k f (slot_start k + o) ≡ get_or (header_bytes f) o 0
unfolding with_slot
header_byte b k f o n h =
    let l : length (header_bytes f) ≡ 60 = length-header f n in
    let e : slot_start k + o - slot_start k ≡ o = omega arith in
    with_bytes_before (with_bytes b (slot_start k) (header_bytes f)) (slot_start k + 4096) f.content (slot_start k + o) (omega arith)
    ∙ with_bytes_inside b (slot_start k) (header_bytes f) (slot_start k + o) (omega arith) (omega arith)
    ∙ ap (λ i. get_or (header_bytes f) i 0) e

content_byte : (b : ℕ → ℕ) (k : ℕ) (f : File) (i : ℕ) → i < length f.content → with_slot b k f (slot_start k + 4096 + i) ≡ get_or f.content i 0
unfolding with_slot
content_byte b k f i h =
    let e : slot_start k + 4096 + i - (slot_start k + 4096) ≡ i = omega arith in
    with_bytes_inside (with_bytes b (slot_start k) (header_bytes f)) (slot_start k + 4096) f.content (slot_start k + 4096 + i) (omega arith) (omega arith)
    ∙ ap (λ j. get_or f.content j 0) e

-- ---- its numbers

-- the four bytes of a number in a header
number_read : (b : ℕ → ℕ) (k : ℕ) (f : File) (o : ℕ) (v : ℕ) → is_name f.name ≡ true → o + 4 ≤ 60 → v < 2 ^ 32
    → get_or (header_bytes f) o 0 ∷ get_or (header_bytes f) (o + 1) 0 ∷ get_or (header_bytes f) (o + 2) 0 ∷ get_or (header_bytes f) (o + 3) 0 ∷ [] ≡ to_le_bytes w32 v
    → number_at (with_slot b k f) (slot_start k + o) ≡ v
number_read b k f o v n h l e =
    let byte : (i : ℕ) → i < 4 → with_slot b k f (slot_start k + o + i) ≡ get_or (header_bytes f) (o + i) 0 = λ i g.
    let a : slot_start k + o + i ≡ slot_start k + (o + i) = omega arith in ap (with_slot b k f) a ∙ header_byte b k f (o + i) n (omega arith) in
    let first : with_slot b k f (slot_start k + o) ≡ get_or (header_bytes f) o 0 = header_byte b k f o n (omega arith) in
    let same : with_slot b k f (slot_start k + o) ∷ with_slot b k f (slot_start k + o + 1) ∷ with_slot b k f (slot_start k + o + 2) ∷ with_slot b k f (slot_start k + o + 3) ∷ []
    ≡ get_or (header_bytes f) o 0 ∷ get_or (header_bytes f) (o + 1) 0 ∷ get_or (header_bytes f) (o + 2) 0 ∷ get_or (header_bytes f) (o + 3) 0 ∷ [] =
    λ i. first i ∷ byte 1 (omega arith) i ∷ byte 2 (omega arith) i ∷ byte 3 (omega arith) i ∷ [] in
    ap (from_le_bytes w32) (same ∙ e) ∙ from_le_bytes-to_le_bytes_4 v l

version_read : (b : ℕ → ℕ) (k : ℕ) (f : File) → IsFile f → number_at (with_slot b k f) (slot_start k + 4) ≡ f.version
unfolding header_bytes
version_read b k f h = number_read b k f 4 f.version h.named (omega arith) h.version refl

base_read : (b : ℕ → ℕ) (k : ℕ) (f : File) → IsFile f → number_at (with_slot b k f) (slot_start k + 8) ≡ f.base
unfolding header_bytes
base_read b k f h = number_read b k f 8 f.base h.named (omega arith) h.base refl

length_read : (b : ℕ → ℕ) (k : ℕ) (f : File) → IsFile f → number_at (with_slot b k f) (slot_start k + 12) ≡ length f.content
unfolding header_bytes
length_read b k f h = let l = h.long in number_read b k f 12 (length f.content) h.named (omega arith) (omega (arith, l)) refl

length_at_base_read : (b : ℕ → ℕ) (k : ℕ) (f : File) → IsFile f → number_at (with_slot b k f) (slot_start k + 16) ≡ f.length_at_base
unfolding header_bytes
length_at_base_read b k f h = let l = h.length_at_base in number_read b k f 16 f.length_at_base h.named (omega arith) (omega (arith, l)) refl

flags_below : (s t u : Bool) → cond s 1 0 + cond t 2 0 + cond u 4 0 < 8
flags_below true true true = omega arith
flags_below true true false = omega arith
flags_below true false true = omega arith
flags_below true false false = omega arith
flags_below false true true = omega arith
flags_below false true false = omega arith
flags_below false false true = omega arith
flags_below false false false = omega arith

flags_read : (b : ℕ → ℕ) (k : ℕ) (f : File) → IsFile f → number_at (with_slot b k f) (slot_start k + 20) ≡ flags_of f
unfolding header_bytes
flags_read b k f h = let l = flags_below f.append f.conflicted f.deleted in number_read b k f 20 (flags_of f) h.named (omega arith) (omega (arith, l)) refl

name_length_read : (b : ℕ → ℕ) (k : ℕ) (f : File) → IsFile f → number_at (with_slot b k f) (slot_start k + 24) ≡ length f.name
unfolding header_bytes
name_length_read b k f h = let l = name_short f.name h.named in number_read b k f 24 (length f.name) h.named (omega arith) (omega (arith, l)) refl

mark_read : (b : ℕ → ℕ) (k : ℕ) (f : File) → IsFile f → number_at (with_slot b k f) (slot_start k) ≡ from_le_bytes w32 (codes "DTF1")
unfolding header_bytes
mark_read b k f h =
    let z : slot_start k ≡ slot_start k + 0 = omega arith in
    ap (number_at (with_slot b k f)) z ∙ number_read b k f 0 (from_le_bytes w32 (codes "DTF1")) h.named (omega arith) (omega arith) refl

append_flag : (s t u : Bool) → has_append (cond s 1 0 + cond t 2 0 + cond u 4 0) ≡ s
append_flag true true true = refl
append_flag true true false = refl
append_flag true false true = refl
append_flag true false false = refl
append_flag false true true = refl
append_flag false true false = refl
append_flag false false true = refl
append_flag false false false = refl

conflicted_flag : (s t u : Bool) → has_conflicted (cond s 1 0 + cond t 2 0 + cond u 4 0) ≡ t
conflicted_flag true true true = refl
conflicted_flag true true false = refl
conflicted_flag true false true = refl
conflicted_flag true false false = refl
conflicted_flag false true true = refl
conflicted_flag false true false = refl
conflicted_flag false false true = refl
conflicted_flag false false false = refl

deleted_flag : (s t u : Bool) → has_deleted (cond s 1 0 + cond t 2 0 + cond u 4 0) ≡ u
deleted_flag true true true = refl
deleted_flag true true false = refl
deleted_flag true false true = refl
deleted_flag true false false = refl
deleted_flag false true true = refl
deleted_flag false true false = refl
deleted_flag false false true = refl
deleted_flag false false false = refl

-- ---- its name and its content

name_byte : (f : File) (i : ℕ) → i < length f.name → get_or (header_bytes f) (28 + i) 0 ≡ get_or f.name i 0
unfolding header_bytes
name_byte f i h =
    get_or-append-add (codes "DTF1" ++ to_le_bytes w32 f.version ++ to_le_bytes w32 f.base ++ to_le_bytes w32 (length f.content) ++ to_le_bytes w32 f.length_at_base ++ to_le_bytes w32 (flags_of f) ++ to_le_bytes w32 (length f.name)) (with_padding f.name) i 0
    ∙ get_or_append_left f.name (replicate (32 - length f.name) 0) 0 i h

name_read : (b : ℕ → ℕ) (k : ℕ) (f : File) → IsFile f → name_at (with_slot b k f) (slot_start k) ≡ f.name
name_read b k f h =
    let l : length (bytes_from (with_slot b k f) (slot_start k + 28) (length f.name)) ≡ length f.name = length-bytes_from (with_slot b k f) (slot_start k + 28) (length f.name) in
    let s = name_short f.name h.named in
    ap (bytes_from (with_slot b k f) (slot_start k + 28)) (name_length_read b k f h)
    ∙ ext_get_or 0 (bytes_from (with_slot b k f) (slot_start k + 28) (length f.name)) f.name l (λ i g.
    let j : i < length f.name = omega arith in
    let a : slot_start k + 28 + i ≡ slot_start k + (28 + i) = omega arith in
    index-bytes_from (with_slot b k f) (slot_start k + 28) (length f.name) i j ∙ ap (with_slot b k f) a
    ∙ header_byte b k f (28 + i) h.named (omega (arith, s)) ∙ name_byte f i j)

content_read : (b : ℕ → ℕ) (k : ℕ) (f : File) → IsFile f → bytes_from (with_slot b k f) (slot_start k + 4096) (number_at (with_slot b k f) (slot_start k + 12)) ≡ f.content
content_read b k f h =
    let l : length (bytes_from (with_slot b k f) (slot_start k + 4096) (length f.content)) ≡ length f.content = length-bytes_from (with_slot b k f) (slot_start k + 4096) (length f.content) in
    ap (bytes_from (with_slot b k f) (slot_start k + 4096)) (length_read b k f h)
    ∙ ext_get_or 0 (bytes_from (with_slot b k f) (slot_start k + 4096) (length f.content)) f.content l (λ i g.
    let j : i < length f.content = omega arith in
    index-bytes_from (with_slot b k f) (slot_start k + 4096) (length f.content) i j ∙ content_byte b k f i j)

-- ---- the whole slot

pub file_read : (b : ℕ → ℕ) (k : ℕ) (f : File) → IsFile f → file_at (with_slot b k f) (slot_start k) ≡ f
unfolding file_at
file_read b k f h = λ i. record {
  name = name_read b k f h i;
  version = version_read b k f h i;
  base = base_read b k f h i;
  length_at_base = length_at_base_read b k f h i;
  content = content_read b k f h i;
  append = (ap has_append (flags_read b k f h) ∙ append_flag f.append f.conflicted f.deleted) i;
  conflicted = (ap has_conflicted (flags_read b k f h) ∙ conflicted_flag f.append f.conflicted f.deleted) i;
  deleted = (ap has_deleted (flags_read b k f h) ∙ deleted_flag f.append f.conflicted f.deleted) i;
}

yes_le : (a b : ℕ) → a ≤ b → nat_le a b ≡ true
yes_le a b h = grind (arith, nat_tests)

yes_lt : (a b : ℕ) → a < b → nat_lt a b ≡ true
yes_lt a b h = grind (arith, nat_tests)

all_true : (p q r s t : Bool) → p ≡ true → q ≡ true → r ≡ true → s ≡ true → t ≡ true → (p && q && r && s && t) ≡ true
all_true true true true true true a b c d e = refl
all_true p q r s t a b c d e = cc

pub in_use_written : (b : ℕ → ℕ) (k : ℕ) (f : File) → IsFile f → is_in_use (with_slot b k f) (slot_start k) ≡ true
in_use_written b k f h = all_true (number_at (with_slot b k f) (slot_start k) == from_le_bytes w32 (codes "DTF1")) (nat_le (number_at (with_slot b k f) (slot_start k + 12)) greatest_length) (nat_le (number_at (with_slot b k f) (slot_start k + 16)) greatest_length) (nat_lt (number_at (with_slot b k f) (slot_start k + 20)) 8) (is_name (name_at (with_slot b k f) (slot_start k)))
    (ap (λ n. n == from_le_bytes w32 (codes "DTF1")) (mark_read b k f h))
    (ap (λ n. nat_le n greatest_length) (length_read b k f h) ∙ yes_le (length f.content) greatest_length h.long)
    (ap (λ n. nat_le n greatest_length) (length_at_base_read b k f h) ∙ yes_le f.length_at_base greatest_length h.length_at_base)
    (ap (λ n. nat_lt n 8) (flags_read b k f h) ∙ yes_lt (flags_of f) 8 (flags_below f.append f.conflicted f.deleted))
    (ap is_name (name_read b k f h) ∙ h.named)

pub slot_read : (b : ℕ → ℕ) (k : ℕ) (f : File) → IsFile f → slot_at (with_slot b k f) k ≡ Some f
unfolding slot_at
slot_read b k f h =
    ap (λ t. cond t (Some (file_at (with_slot b k f) (slot_start k))) None) (in_use_written b k f h) ∙ ap Some (file_read b k f h)
