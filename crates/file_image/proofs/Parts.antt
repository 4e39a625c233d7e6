-- A part of a content.
use Rattle.std.proofs.Common.{◌≡◌, ℕ, zero, suc, ◌+◌, ◌-◌, ◌<◌, ◌≤◌, ◌⊎◌, inl, inr, min, true, List, [], ◌∷◌, ◌++◌, length, get_or, take, drop, refl, ap, sym, ◌∙◌, arith, length-drop}
use Rattle.std.proofs.lemmas.Bool.{cases_lt}
use Rattle.std.proofs.lemmas.List.{ext_get_or, get_or-drop}
use Rattle.file_model.specs.Slots.{with_bytes, bytes_from, file_at, number_at, slot_start, length_offset}
use Rattle.file_image.specs.Lookup.{file_in, HasFile}
use Rattle.file_model.specs.Sizes.{greatest_length}
use Rattle.file_model.specs.File.{is_name}
use Rattle.file_model.proofs.SlotHeaders.{named_in_use}
use Rattle.file_model.proofs.Lookups.{content_length, short_content}
use Rattle.file_model.proofs.Bytes.{length-bytes_from, index-bytes_from, drop-bytes_from, with_bytes_before, with_bytes_inside, with_bytes_after}

pub take_all : (n : ℕ) (xs : List ℕ) → length xs ≤ n → take n xs ≡ xs
take_all zero [] h = refl
take_all (suc n) [] h = refl
take_all zero (x ∷ xs) h = absurd (omega arith)
take_all (suc n) (x ∷ xs) h = ap (λ ys. x ∷ ys) (take_all n xs (omega arith))

-- at most m of n bytes
take_min : (b : ℕ → ℕ) (at n m : ℕ) → take m (bytes_from b at n) ≡ bytes_from b at (min n m)
unfolding bytes_from
take_min b at n zero = let e : 0 ≡ min n 0 = omega arith in ap (bytes_from b at) e
take_min b at zero (suc m) = let e : 0 ≡ min 0 (suc m) = omega arith in ap (bytes_from b at) e
take_min b at (suc n) (suc m) = let e : suc (min n m) ≡ min (suc n) (suc m) = omega arith in ap (λ xs. b at ∷ xs) (take_min b (at + 1) n m) ∙ ap (bytes_from b at) e

no_bytes : (b : ℕ → ℕ) (a c n m : ℕ) → n ≡ m → ((n ≡ 0) ⊎ (a ≡ c)) → bytes_from b a n ≡ bytes_from b c m
unfolding bytes_from
no_bytes b a c n m e (inl z) = let y : m ≡ 0 = omega arith in ap (bytes_from b a) z ∙ ap (bytes_from b c) (sym y)
no_bytes b a c n m e (inr f) = λ i. bytes_from b (f i) (e i)

part_cases : (at n offset from : ℕ) (size : ℕ) → from ≡ min offset n → ((min (n - offset) size ≡ 0) ⊎ (at + offset ≡ at + from))
part_cases at n offset from size e = elim (cases_lt offset n) [ inl l ↦ inr (omega arith) | inr g ↦ inl (omega arith) ]

-- what stands from an offset on, as far as it and the buffer reach
pub part_from : (b : ℕ → ℕ) (at n offset from count size : ℕ) → from ≡ min offset n → count ≡ min (n - from) size
    → take size (drop offset (bytes_from b at n)) ≡ bytes_from b (at + from) count
part_from b at n offset from count size e f =
    ap (take size) (drop-bytes_from b at n offset) ∙ take_min b (at + offset) (n - offset) size
    ∙ no_bytes b (at + offset) (at + from) (min (n - offset) size) count (omega arith) (part_cases at n offset from size e)

-- of a slot's content
pub content_part : (b : ℕ → ℕ) (k offset from count size : ℕ) → from ≡ min offset (length (file_in b k).content) → count ≡ min (length (file_in b k).content - from) size
    → take size (drop offset (file_in b k).content) ≡ bytes_from b (slot_start k + 4096 + from) count
unfolding file_at
content_part b k offset from count size e f =
    let l : length (bytes_from b (slot_start k + 4096) (number_at b (slot_start k + length_offset))) ≡ number_at b (slot_start k + length_offset) = length-bytes_from b (slot_start k + 4096) (number_at b (slot_start k + length_offset)) in
    part_from b (slot_start k + 4096) (number_at b (slot_start k + length_offset)) offset from count size (e ∙ ap (min offset) l) (f ∙ ap (λ n. min (n - from) size) l)

-- the content of a slot in use is short
pub short_file : (b : ℕ → ℕ) (k : ℕ) → HasFile b k → length (file_in b k).content ≤ greatest_length
short_file b k h = let s = short_content b (slot_start k) h.used in let e = content_length b (slot_start k) in omega (arith, s, e)

-- a buffer that begins with a part
pub part_filled : (part new out : List ℕ) (count : ℕ) → part ≡ new → length part ≡ count → new ++ drop count out ≡ part ++ drop (length part) out
part_filled part new out count e f = λ i. sym e i ++ drop (sym f i) out

-- a buffer that has what stands from an offset on
pub copied : (b : ℕ → ℕ) (at : ℕ) (xs : List ℕ) (n : ℕ) → length xs ≡ n → ((k : ℕ) → k < n → get_or xs k 0 ≡ b (at + k)) → xs ≡ bytes_from b at n
copied b at xs n e h =
    let l : length xs ≡ length (bytes_from b at n) = e ∙ sym (length-bytes_from b at n) in
    ext_get_or 0 xs (bytes_from b at n) l (λ i g. let m : i < n = omega arith in h i m ∙ sym (index-bytes_from b at n i m))

-- a content is written where its end is, and its beginning stands there
pub content_behind : (b : ℕ → ℕ) (at n : ℕ) (content : List ℕ) → n ≤ length content → ((i : ℕ) → i < n → b (at + i) ≡ get_or content i 0) → (a : ℕ) → with_bytes b (at + n) (drop n content) a ≡ with_bytes b at content a
content_behind b at n content few same a =
    let l : length (drop n content) ≡ length content - n = length-drop n content in
    elim (cases_lt a (at + n)) [
      | inl before ↦ elim (cases_lt a at) [
        | inl low ↦ with_bytes_before b (at + n) (drop n content) a (omega arith) ∙ sym (with_bytes_before b at content a low)
        | inr from ↦
            let e : a ≡ at + (a - at) = omega arith in
            with_bytes_before b (at + n) (drop n content) a before ∙ ap b e ∙ same (a - at) (omega arith) ∙ sym (with_bytes_inside b at content a from (omega arith))
      ]
      | inr past ↦ elim (cases_lt a (at + length content)) [
        | inl inside ↦
            let e : n + (a - (at + n)) ≡ a - at = omega arith in
            with_bytes_inside b (at + n) (drop n content) a past (omega (arith, l)) ∙ get_or-drop n content (a - (at + n)) 0 ∙ ap (λ i. get_or content i 0) e
            ∙ sym (with_bytes_inside b at content a (omega arith) inside)
        | inr after ↦ with_bytes_after b (at + n) (drop n content) a (omega (arith, l)) ∙ sym (with_bytes_after b at content a after)
      ]
    ]

-- the content is what stands in the slot
pub own_content : (b : ℕ → ℕ) (k : ℕ) → (file_in b k).content ≡ bytes_from b (slot_start k + 4096) (length (file_in b k).content)
unfolding file_at
own_content b k = ap (bytes_from b (slot_start k + 4096)) (sym (length-bytes_from b (slot_start k + 4096) (number_at b (slot_start k + length_offset))))

pub own_name : (b : ℕ → ℕ) (k : ℕ) → HasFile b k → is_name (file_in b k).name ≡ true
unfolding file_at
own_name b k h = named_in_use b (slot_start k) h.used
