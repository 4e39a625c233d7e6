-- What is written of a memory, page after page, and of a top.
use Rattle.std.proofs.Common.{◌≡◌, ℕ, ◌+◌, ◌-◌, ◌≤◌, ◌^◌, subst, true, false, List, [], ◌∷◌, ◌++◌, length, Some, None, Result, Ok, Err, refl, sym, ap, ◌∙◌, append_assoc, arith}
use Rattle.std.specs.Prelude.{OnOk, IfOk}
use Rattle.std.specs.declared.alloc.AllocError.{AllocError}
use Rattle.std.specs.Int.{w32, to_le_bytes}
use Rattle.std.specs.List.{flat_map}
use Rattle.std.proofs.lemmas.Grind.{flat_map-append}
use Rattle.std.proofs.lemmas.List.{append-nil}
use Rattle.call_model.specs.declared.Block.{Block}
use Rattle.memory_model.specs.Sizes.{pages}
use Rattle.memory_model.specs.Memory.{Memory}
use Rattle.memory_model.specs.Ranges.{NoneUsed, IsNextPage, IsPageOf, IsZeroPage}
use Rattle.parcel_model.specs.Parcel.{Entry, is_zero, block_spelling, content_spelling, entry_spelling, memory_spelling, TopOf}
use Rattle.parcel_model.specs.Packing.{page_bytes, number_of, numbered, content_of, entry_of, entries_from, entries_of, parcel_bytes, IsPackable}
use Rattle.parcel_model.specs.Sent.{whole_page}
use Rattle.space_model.specs.Space.{Top}
use Rattle.parcel_model.proofs.Packed.{packed_spells}
use Rattle.node_parcel.specs.declared.packing.Packed.{Packed}
use Rattle.node_parcel.proofs.Used.{page_is, zero_bytes, next_entries, no_more}

-- ---- the content of a page

pub zero_content : (known : List (List ℕ)) (m : Memory) (page : ℕ) → IsZeroPage m page → content_spelling (content_of known (page_bytes m page)) ≡ 0 ∷ []
zero_content known m page h = rw (zero_bytes m page h) refl

pub empty_content : (known : List (List ℕ)) (m : Memory) (page : ℕ) (bytes : List ℕ) → IsPageOf m page bytes → is_zero bytes ≡ true → content_spelling (content_of known (page_bytes m page)) ≡ 0 ∷ []
empty_content known m page bytes h z = ap (λ (l : List ℕ). content_spelling (content_of known l)) (sym (page_is m page bytes h)) ∙ rw z refl

pub some_content : (known : List (List ℕ)) (m : Memory) (page : ℕ) (bytes : List ℕ) → IsPageOf m page bytes → is_zero bytes ≡ false → content_spelling (content_of known (page_bytes m page)) ≡ content_spelling (numbered (number_of known bytes) bytes)
some_content known m page bytes h z = ap (λ (l : List ℕ). content_spelling (content_of known l)) (sym (page_is m page bytes h)) ∙ rw z refl

pub known_content : (known : List (List ℕ)) (bytes : List ℕ) (n : ℕ) → number_of known bytes ≡ Some n → content_spelling (numbered (number_of known bytes) bytes) ≡ 1 ∷ to_le_bytes w32 n
known_content known bytes n e = rw e refl

pub whole_content : (known : List (List ℕ)) (bytes : List ℕ) → number_of known bytes ≡ None → content_spelling (numbered (number_of known bytes) bytes) ≡ 2 ∷ bytes
whole_content known bytes e = rw e refl

-- ---- the bytes that stand there

pub none_whole_zero : (known : List (List ℕ)) (m : Memory) (page : ℕ) → IsZeroPage m page → whole_page (content_of known (page_bytes m page)) ≡ []
none_whole_zero known m page h = rw (zero_bytes m page h) refl

pub none_whole_empty : (known : List (List ℕ)) (m : Memory) (page : ℕ) (bytes : List ℕ) → IsPageOf m page bytes → is_zero bytes ≡ true → whole_page (content_of known (page_bytes m page)) ≡ []
none_whole_empty known m page bytes h z = ap (λ (l : List ℕ). whole_page (content_of known l)) (sym (page_is m page bytes h)) ∙ rw z refl

pub some_whole : (known : List (List ℕ)) (m : Memory) (page : ℕ) (bytes : List ℕ) → IsPageOf m page bytes → is_zero bytes ≡ false → whole_page (content_of known (page_bytes m page)) ≡ whole_page (numbered (number_of known bytes) bytes)
some_whole known m page bytes h z = ap (λ (l : List ℕ). whole_page (content_of known l)) (sym (page_is m page bytes h)) ∙ rw z refl

pub none_whole_known : (known : List (List ℕ)) (bytes : List ℕ) (n : ℕ) → number_of known bytes ≡ Some n → whole_page (numbered (number_of known bytes) bytes) ≡ []
none_whole_known known bytes n e = rw e refl

pub one_whole : (known : List (List ℕ)) (bytes : List ℕ) → number_of known bytes ≡ None → whole_page (numbered (number_of known bytes) bytes) ≡ bytes ∷ []
one_whole known bytes e = rw e refl

pub stays_whole : {X E : Type 0} (r : Result X E) (old added : List (List ℕ)) → added ≡ [] → OnOk r (old ≡ old ++ added)
stays_whole (Ok x) old added e = sym (append-nil old) ∙ ap (λ (l : List (List ℕ)). old ++ l) (sym e)
stays_whole (Err x) old added e = tt

-- ---- pages

-- what each of the pages from one on gives, one after the other
abbrev pub left_from : {A : Type 0} → (Entry → List A) → List (List ℕ) → Memory → ℕ → List A
left_from f known m from = flat_map f (entries_from known m from (pages - from))

pub more_written : {A : Type 0} (f : Entry → List A) (known : List (List ℕ)) (m : Memory) (from page : ℕ) (out total : List A) → IsNextPage m from page → out ++ left_from f known m from ≡ total → (out ++ f (entry_of known m page)) ++ left_from f known m (page + 1) ≡ total
more_written {A = A} f known m from page out total h so_far =
    let e : left_from f known m from ≡ f (entry_of known m page) ++ left_from f known m (page + 1) = ap (flat_map f) (next_entries known m from page h) in
    append_assoc out (f (entry_of known m page)) (left_from f known m (page + 1)) ∙ ap (λ (t : List A). out ++ t) (sym e) ∙ so_far

pub all_written : {A : Type 0} (f : Entry → List A) (known : List (List ℕ)) (m : Memory) (from : ℕ) (out total : List A) → from ≤ pages → NoneUsed m from pages → out ++ left_from f known m from ≡ total → out ≡ total
all_written {A = A} f known m from out total le none so_far = sym (append-nil out) ∙ ap (λ (es : List Entry). out ++ flat_map f es) (sym (no_more known m from le none)) ∙ so_far

pub first_written : (known : List (List ℕ)) (m : Memory) (out : List ℕ) (count : ℕ) → count ≡ length (entries_of known m) → (out ++ to_le_bytes w32 count) ++ left_from entry_spelling known m 0 ≡ out ++ memory_spelling (entries_of known m)
first_written known m out count e = append_assoc out (to_le_bytes w32 count) (left_from entry_spelling known m 0) ∙ ap (λ (n : ℕ). out ++ (to_le_bytes w32 n ++ left_from entry_spelling known m 0)) e

-- ---- their count

pub more_counted : (known : List (List ℕ)) (m : Memory) (from page count total : ℕ) → IsNextPage m from page → count + length (entries_from known m from (pages - from)) ≡ total → count + 1 + length (entries_from known m (page + 1) (pages - (page + 1))) ≡ total
more_counted known m from page count total h so_far =
    let e : length (entries_from known m from (pages - from)) ≡ length (entry_of known m page ∷ entries_from known m (page + 1) (pages - (page + 1))) = ap length (next_entries known m from page h) in
    omega (arith, e, so_far)

pub all_counted : (known : List (List ℕ)) (m : Memory) (from count total : ℕ) → from ≤ pages → NoneUsed m from pages → count + length (entries_from known m from (pages - from)) ≡ total → count ≡ total
all_counted known m from count total le none so_far = let e = ap length (no_more known m from le none) in omega (arith, e, so_far)

-- ---- the register block

pub block_parts : (out : List ℕ) (b : Block) → (((out ++ to_le_bytes w32 b.pc) ++ flat_map (to_le_bytes w32) b.x) ++ to_le_bytes w32 b.cause) ++ to_le_bytes w32 b.value ≡ out ++ block_spelling b
block_parts out b =
    let x = flat_map (to_le_bytes w32) b.x in
    let end = to_le_bytes w32 b.cause ++ to_le_bytes w32 b.value in
    let inner : flat_map (to_le_bytes w32) (b.x ++ b.cause ∷ b.value ∷ []) ≡ x ++ end = flat_map-append (to_le_bytes w32) b.x (b.cause ∷ b.value ∷ []) in
    append_assoc ((out ++ to_le_bytes w32 b.pc) ++ x) (to_le_bytes w32 b.cause) (to_le_bytes w32 b.value)
    ∙ append_assoc (out ++ to_le_bytes w32 b.pc) x end
    ∙ append_assoc out (to_le_bytes w32 b.pc) (x ++ end)
    ∙ ap (λ (t : List ℕ). out ++ (to_le_bytes w32 b.pc ++ t)) (sym inner)

-- ---- a parcel

pub all_parts : (mark block limit fuel used memory snapshot : List ℕ) (flags : ℕ) → ((((((mark ++ block) ++ flags ∷ []) ++ limit) ++ fuel) ++ used) ++ memory) ++ snapshot ≡ mark ++ (block ++ (flags ∷ (limit ++ (fuel ++ (used ++ (memory ++ snapshot))))))
all_parts mark block limit fuel used memory snapshot flags =
    append_assoc (((((mark ++ block) ++ flags ∷ []) ++ limit) ++ fuel) ++ used) memory snapshot
    ∙ append_assoc ((((mark ++ block) ++ flags ∷ []) ++ limit) ++ fuel) used (memory ++ snapshot)
    ∙ append_assoc (((mark ++ block) ++ flags ∷ []) ++ limit) fuel (used ++ (memory ++ snapshot))
    ∙ append_assoc ((mark ++ block) ++ flags ∷ []) limit (fuel ++ (used ++ (memory ++ snapshot)))
    ∙ append_assoc (mark ++ block) (flags ∷ []) (limit ++ (fuel ++ (used ++ (memory ++ snapshot))))
    ∙ append_assoc mark block (flags ∷ (limit ++ (fuel ++ (used ++ (memory ++ snapshot)))))

-- what was written is a parcel of the top
pub is_parcel : (known : List (List ℕ)) (t : Top) (r : Result Packed AllocError) → length known ≤ 2 ^ 32 → IsPackable t → IfOk r (λ p. p.bytes.items ≡ parcel_bytes known t) → IfOk r (λ p. TopOf known p.bytes.items t)
is_parcel known t (Ok p) short h e = subst (λ (bytes : List ℕ). TopOf known bytes t) (sym e) (packed_spells known t short h)
is_parcel known t (Err x) short h e = tt
