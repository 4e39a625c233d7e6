-- A content that is replaced or added to.
use Rattle.std.proofs.Common.{◌≡◌, ℕ, ◌+◌, ◌-◌, ◌≤◌, Bool, true, false, cond, List, length, refl, ap, ◌∙◌, arith, length-append}
use Rattle.std.specs.Prelude.{nat_le}
use Rattle.std.proofs.lemmas.Bool.Decides.{nat_tests}
use Rattle.file_model.specs.Sizes.{greatest_length}
use Rattle.file_model.specs.File.{File}
use Rattle.file_model.specs.Slots.{with_bytes, header_bytes, with_slot, slot_start}
use Rattle.file_model.specs.Operations.{new_content, with_content}
use Rattle.file_model.proofs.Headers.{added_written}
use Rattle.file_image.specs.Lookup.{file_in, HasFile}
use Rattle.file_image.proofs.Parts.{own_content, own_name}

pub length_new : (f : File) (part : List ℕ) (add : Bool) (start : ℕ) → start ≡ cond add (length f.content) 0 → start + length part ≡ length (new_content f part add)
length_new f part true start e = omega (arith, e, length-append f.content part)
length_new f part false start e = omega (arith, e)

pub start_short : (f : File) (add : Bool) (start : ℕ) → length f.content ≤ greatest_length → start ≡ cond add (length f.content) 0 → start ≤ greatest_length
start_short f true start l e = omega (arith, e, l)
start_short f false start l e = omega (arith, e)

le_moved : (a b n : ℕ) → a ≤ n → nat_le b (n - a) ≡ nat_le (a + b) n
le_moved a b n h = grind (arith, nat_tests)

pub room_is : (f : File) (part : List ℕ) (add : Bool) (start : ℕ) → length f.content ≤ greatest_length → start ≡ cond add (length f.content) 0
    → nat_le (length part) (greatest_length - start) ≡ nat_le (length (new_content f part add)) greatest_length
room_is f part add start l e = le_moved start (length part) greatest_length (start_short f add start l e) ∙ ap (λ n. nat_le n greatest_length) (length_new f part add start e)

pub content_written : (b c d : ℕ → ℕ) (k : ℕ) (part : List ℕ) (add : Bool) (start : ℕ) → HasFile b k → start ≡ cond add (length (file_in b k).content) 0
    → c ≡ with_bytes b (slot_start k) (header_bytes (with_content part add (file_in b k))) → d ≡ with_bytes c (slot_start k + (4096 + start)) part
    → d ≡ with_slot b k (with_content part add (file_in b k))
unfolding with_slot
content_written b c d k part true start h e f g =
    let f2 = with_content part true (file_in b k) in
    let a : slot_start k + (4096 + start) ≡ slot_start k + 4096 + length (file_in b k).content = omega (arith, e) in
    g ∙ ap (λ (x : ℕ → ℕ). with_bytes x (slot_start k + (4096 + start)) part) f ∙ ap (λ o. with_bytes (with_bytes b (slot_start k) (header_bytes f2)) o part) a
    ∙ added_written b k f2 (file_in b k).content part (own_name b k h) refl (own_content b k)
content_written b c d k part false start h e f g =
    let a : slot_start k + (4096 + start) ≡ slot_start k + 4096 = omega (arith, e) in
    g ∙ ap (λ (x : ℕ → ℕ). with_bytes x (slot_start k + (4096 + start)) part) f ∙ ap (λ o. with_bytes (with_bytes b (slot_start k) (header_bytes (with_content part false (file_in b k)))) o part) a
