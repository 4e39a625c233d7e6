-- The size that is counted along with the lines is that of the image's file, in either format.
use Rattle.std.proofs.Common.{◌≡◌, ℕ, ◌+◌, Bool, true, false, List, [], ◌∷◌, ◌++◌, length, refl, sym, ◌∙◌, ap, subst, arith, length-append}
use Rattle.std.specs.Prelude.{cond, ◌==◌}
use borrow.Author.Tests.{eqb-true, eqb-false}
use Rattle.std.proofs.lemmas.List.{append-nil, length-replicate}
use Rattle.std.proofs.lemmas.List.Concat.{flat_map-cons}
use Rattle.std.specs.List.{flat_map}
use Rattle.image_model.specs.Image as model
use Rattle.image_model.specs.declared.format.Format.{Format}
use Rattle.image_model.specs.declared.format.Format.TheVariants as formats
use Rattle.image_model.specs.Image.{segment_bytes, spelling, format_of, image_bytes}
use Rattle.source_model.specs.Bytes.{is_empty}
use Rattle.source_model.specs.declared.statement.Statement.{Statement}
use Rattle.source_model.specs.declared.statement.Statement.TheVariants.{Nothing, Plain, Branch, Jump, LoadImmediate, Segment, Dti2, Entry, Stack, Word, Byte, Zero}
use Rattle.source_model.specs.Layout.{size_of, address_in}
use Rattle.source_model.specs.Reading.{Draft, bytes_of, all_segments, size_with, draft_with, draft_image}

pub size-bytes : (here : ℕ) (s : Statement) (v : ℕ) → length (bytes_of here s v) ≡ size_of s
size-bytes here Nothing v = refl
size-bytes here (Plain i) v = refl
size-bytes here (Branch c a b t) v = refl
size-bytes here (Jump r t) v = refl
size-bytes here (LoadImmediate r t) v = refl
size-bytes here (Segment a p) v = refl
size-bytes here Dti2 v = refl
size-bytes here (Entry t) v = refl
size-bytes here (Stack t) v = refl
size-bytes here (Word t) v = refl
size-bytes here (Byte n) v = refl
size-bytes here (Zero n) v = length-replicate n 0

-- what a segment with these bytes takes in the file
abbrev pub cost : List ℕ → ℕ
cost [] = 0
cost (b ∷ bs) = 9 + length (b ∷ bs)

-- what segments take in the file, in either format
abbrev pub segments_size : List model.Segment → ℕ
segments_size [] = 0
segments_size (s ∷ ss) = 9 + length s.content + segments_size ss

segment-size : (f : Format) (s : model.Segment) → length (segment_bytes f s) ≡ 9 + length s.content
segment-size f s = omega arith

segments-size : (f : Format) (ss : List model.Segment) → length (flat_map (segment_bytes f) ss) ≡ segments_size ss
segments-size f [] = refl
segments-size f (s ∷ ss) = ap length (flat_map-cons (segment_bytes f) s ss) ∙ omega (arith, length-append (segment_bytes f s) (flat_map (segment_bytes f) ss), segment-size f s, segments-size f ss)

segments-more : (ss : List model.Segment) (s : model.Segment) → segments_size (ss ++ s ∷ []) ≡ segments_size ss + (9 + length s.content)
segments-more [] s = omega arith
segments-more (t ∷ ss) s = omega (arith, segments-more ss s)

all_segments-cost : (base permission : ℕ) (content : List ℕ) (ss : List model.Segment) → segments_size (all_segments base permission content ss) ≡ segments_size ss + cost content
all_segments-cost base permission [] ss = omega arith
all_segments-cost base permission (b ∷ bs) ss = segments-more ss (record { address = base; permission = permission; content = b ∷ bs })

add-cost : (content bytes : List ℕ) (size : ℕ) (t : Bool) → (length bytes == 0) ≡ t → (cond t size (size + length bytes + cond (is_empty content) 9 0)) + cost content ≡ size + cost (content ++ bytes)
add-cost content [] size true e = rw append-nil refl
add-cost content (x ∷ xs) size true e = absurd (omega (arith, eqb-true (length (x ∷ xs)) 0 e))
add-cost content [] size false e = absurd (eqb-false 0 0 e refl)
add-cost [] (x ∷ xs) size false e = omega arith
add-cost (c ∷ cs) (x ∷ xs) size false e = omega (arith, length-append cs (x ∷ xs))

-- the size is that of the file with every segment
abbrev pub IsSized : Draft → Type 0
IsSized d = d.size ≡ 14 + segments_size (all_segments d.base d.permission d.content d.segments)

pub extend-size : (d : Draft) (bytes : List ℕ) (n : ℕ) → IsSized d → length bytes ≡ n → size_with d n ≡ 14 + segments_size (all_segments d.base d.permission (d.content ++ bytes) d.segments)
extend-size d bytes n h counted =
    let old : d.size ≡ 14 + (segments_size d.segments + cost d.content) = h ∙ ap (λ (k : ℕ). 14 + k) (all_segments-cost d.base d.permission d.content d.segments) in
    let new : size_with d (length bytes) + cost d.content ≡ d.size + cost (d.content ++ bytes) = add-cost d.content bytes d.size (length bytes == 0) refl in
    let total : segments_size (all_segments d.base d.permission (d.content ++ bytes) d.segments) ≡ segments_size d.segments + cost (d.content ++ bytes) = all_segments-cost d.base d.permission (d.content ++ bytes) d.segments in
    let with_more : size_with d (length bytes) ≡ 14 + segments_size (all_segments d.base d.permission (d.content ++ bytes) d.segments) = omega arith in
    subst (λ (k : ℕ). size_with d k ≡ 14 + segments_size (all_segments d.base d.permission (d.content ++ bytes) d.segments)) counted with_more

pub apply-size : (d : Draft) (s : Statement) (v : ℕ) → IsSized d → IsSized (draft_with d s v)
apply-size d Nothing v h = extend-size d [] 0 h refl
apply-size d (Plain i) v h = extend-size d (bytes_of (address_in d.layout.reached) (Plain i) v) 4 h (size-bytes (address_in d.layout.reached) (Plain i) v)
apply-size d (Branch c a b t) v h = extend-size d (bytes_of (address_in d.layout.reached) (Branch c a b t) v) 4 h (size-bytes (address_in d.layout.reached) (Branch c a b t) v)
apply-size d (Jump r t) v h = extend-size d (bytes_of (address_in d.layout.reached) (Jump r t) v) 4 h (size-bytes (address_in d.layout.reached) (Jump r t) v)
apply-size d (LoadImmediate r t) v h = extend-size d (bytes_of (address_in d.layout.reached) (LoadImmediate r t) v) 8 h (size-bytes (address_in d.layout.reached) (LoadImmediate r t) v)
apply-size d (Word t) v h = extend-size d (bytes_of (address_in d.layout.reached) (Word t) v) 4 h (size-bytes (address_in d.layout.reached) (Word t) v)
apply-size d (Byte n) v h = extend-size d (bytes_of (address_in d.layout.reached) (Byte n) v) 1 h (size-bytes (address_in d.layout.reached) (Byte n) v)
apply-size d (Zero n) v h = extend-size d (bytes_of (address_in d.layout.reached) (Zero n) v) n h (size-bytes (address_in d.layout.reached) (Zero n) v)
apply-size d (Segment a p) v h = h
apply-size d Dti2 v h = h
apply-size d (Entry t) v h = h
apply-size d (Stack t) v h = h

pub spelling-size : (f : Format) (i : model.Image) → length (spelling f i) ≡ 14 + segments_size i.segments
spelling-size formats.Dti1 i = omega (arith, segments-size formats.Dti1 i.segments)
spelling-size formats.Dti2 i = omega (arith, segments-size formats.Dti2 i.segments)

pub file-size : (d : Draft) → IsSized d → length (image_bytes (draft_image d)) ≡ d.size
file-size d h = spelling-size (format_of (draft_image d)) (draft_image d) ∙ sym h
