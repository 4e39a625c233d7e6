-- Writing a file into a slot, part by part.
use Rattle.std.proofs.Common.{◌≡◌, ℕ, ◌+◌, ◌-◌, ◌≤◌, true, List, [], ◌++◌, length, ap, sym, ◌∙◌, arith, length-append}
use Rattle.std.specs.Prelude.{replicate, nat_le}
use Rattle.std.proofs.lemmas.Bool.Decides.{nat_tests}
use Rattle.std.proofs.lemmas.List.{length-replicate}
use Rattle.file_model.specs.Sizes.{greatest_name}
use Rattle.file_model.specs.File.{File, is_name}
use Rattle.file_model.specs.Slots.{bytes_from, with_bytes, header_bytes, with_padding, with_slot, slot_start}
use Rattle.file_model.proofs.Bytes.{same_bytes_from, with_bytes_after, with_bytes_nothing, with_bytes_twice, with_bytes_same}

-- a name has at most 32 bytes
pub name_short : (name : List ℕ) → is_name name ≡ true → length name ≤ greatest_name
name_short name h = let l : nat_le (length name) greatest_name ≡ true = grind (arith, nat_tests) in grind (arith, nat_tests)

pub length-with_padding : (name : List ℕ) → is_name name ≡ true → length (with_padding name) ≡ 32
length-with_padding name h = omega (arith, length-append name (replicate (greatest_name - length name) 0), length-replicate {A = ℕ} (greatest_name - length name) 0, name_short name h)

pub length-header : (f : File) → is_name f.name ≡ true → length (header_bytes f) ≡ 60
unfolding header_bytes
length-header f h = let e : length (with_padding f.name) ≡ 32 = length-with_padding f.name h in omega (arith, e)

-- a file without content: its header is all
pub empty_written : (b : ℕ → ℕ) (k : ℕ) (f : File) → f.content ≡ [] → with_bytes b (slot_start k) (header_bytes f) ≡ with_slot b k f
unfolding with_slot
empty_written b k f e =
    sym (ap (with_bytes (with_bytes b (slot_start k) (header_bytes f)) (slot_start k + 4096)) e ∙ with_bytes_nothing (with_bytes b (slot_start k) (header_bytes f)) (slot_start k + 4096))

-- a header leaves the content
content_stays : (b : ℕ → ℕ) (at : ℕ) (f : File) (n : ℕ) → is_name f.name ≡ true → bytes_from (with_bytes b at (header_bytes f)) (at + 4096) n ≡ bytes_from b (at + 4096) n
content_stays b at f n h =
    let l : length (header_bytes f) ≡ 60 = length-header f h in
    same_bytes_from (with_bytes b at (header_bytes f)) b (at + 4096) n (λ i g. with_bytes_after b at (header_bytes f) (at + 4096 + i) (omega arith))

-- a content that stands there already
pub same_written : (b : ℕ → ℕ) (k : ℕ) (f : File) → is_name f.name ≡ true → f.content ≡ bytes_from b (slot_start k + 4096) (length f.content)
    → with_bytes b (slot_start k) (header_bytes f) ≡ with_slot b k f
unfolding with_slot
same_written b k f h e =
    let x : ℕ → ℕ = with_bytes b (slot_start k) (header_bytes f) in
    let c : f.content ≡ bytes_from x (slot_start k + 4096) (length f.content) = e ∙ sym (content_stays b (slot_start k) f (length f.content) h) in
    sym (ap (with_bytes x (slot_start k + 4096)) c ∙ with_bytes_same x (slot_start k + 4096) (length f.content))

-- a content that stands there already, and a part behind it
pub added_written : (b : ℕ → ℕ) (k : ℕ) (f : File) (old part : List ℕ) → is_name f.name ≡ true → f.content ≡ old ++ part → old ≡ bytes_from b (slot_start k + 4096) (length old)
    → with_bytes (with_bytes b (slot_start k) (header_bytes f)) (slot_start k + 4096 + length old) part ≡ with_slot b k f
unfolding with_slot
added_written b k f old part h e s =
    let x : ℕ → ℕ = with_bytes b (slot_start k) (header_bytes f) in
    let c : old ≡ bytes_from x (slot_start k + 4096) (length old) = s ∙ sym (content_stays b (slot_start k) f (length old) h) in
    let y : with_bytes x (slot_start k + 4096) old ≡ x = ap (with_bytes x (slot_start k + 4096)) c ∙ with_bytes_same x (slot_start k + 4096) (length old) in
    sym (ap (with_bytes x (slot_start k + 4096)) e ∙ sym (with_bytes_twice x (slot_start k + 4096) old part)
    ∙ ap (λ (z : ℕ → ℕ). with_bytes z (slot_start k + 4096 + length old) part) y)
