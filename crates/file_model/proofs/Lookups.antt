-- Looking through slots one after the other.
use Rattle.std.proofs.Common.{◌≡◌, ℕ, zero, suc, ◌+◌, ◌-◌, ◌<◌, ◌≤◌, Bool, true, false, [], ◌∷◌, length, refl, ap, arith}
use Rattle.std.specs.Prelude.{◌&&◌, nat_le}
use Rattle.std.proofs.lemmas.Bool.Decides.{nat_tests}
use Rattle.file_model.specs.Sizes.{greatest_name, greatest_length}
use Rattle.file_model.specs.File.{is_name}
use Rattle.file_model.specs.Slots.{slot_at, slots_from, file_at, is_in_use, name_at, number_at, name_length_offset, length_offset}
use Rattle.file_model.proofs.Bytes.{length-bytes_from}

-- the first of the slots from k to n, and those after it
pub slots_next : (b : ℕ → ℕ) (k n : ℕ) → k < n → slots_from b k (n - k) ≡ slot_at b k ∷ slots_from b (k + 1) (n - (k + 1))
unfolding slots_from
slots_next b k n h =
    let e : n - k ≡ suc (n - (k + 1)) = omega arith in
    ap (slots_from b k) e

pub slots_end : (b : ℕ → ℕ) (k : ℕ) → slots_from b k 0 ≡ []
unfolding slots_from
slots_end b k = refl

pub length-slots_from : (b : ℕ → ℕ) (k n : ℕ) → length (slots_from b k n) ≡ n
unfolding slots_from
length-slots_from b k zero = refl
length-slots_from b k (suc n) = ap suc (length-slots_from b (k + 1) n)

-- ---- a slot in use

pub and_left : (a b : Bool) → (a && b) ≡ true → a ≡ true
and_left true b h = refl
and_left false b h = h

pub and_right : (a b : Bool) → (a && b) ≡ true → b ≡ true
and_right true b h = h
and_right false b h = cc

-- the name of a slot in use is short
pub short_name : (b : ℕ → ℕ) (at : ℕ) → is_name (name_at b at) ≡ true → number_at b (at + name_length_offset) ≤ greatest_name
short_name b at h =
    let e : length (name_at b at) ≡ number_at b (at + name_length_offset) = length-bytes_from b (at + 28) (number_at b (at + name_length_offset)) in
    let l : nat_le (length (name_at b at)) greatest_name ≡ true = grind (arith, nat_tests) in
    let m : length (name_at b at) ≤ greatest_name = grind (arith, nat_tests) in
    omega (arith, e, m)

pub content_length : (b : ℕ → ℕ) (at : ℕ) → length (file_at b at).content ≡ number_at b (at + length_offset)
unfolding file_at
content_length b at = length-bytes_from b (at + 4096) (number_at b (at + length_offset))

-- the content of a slot in use is short
pub short_content : (b : ℕ → ℕ) (at : ℕ) → is_in_use b at ≡ true → number_at b (at + length_offset) ≤ greatest_length
short_content b at h = let l : nat_le (number_at b (at + length_offset)) greatest_length ≡ true = grind (arith, nat_tests) in grind (arith, nat_tests)
