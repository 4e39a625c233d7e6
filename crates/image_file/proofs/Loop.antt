-- Reading segments one after the other, as a loop does.
use Rattle.std.proofs.Common.{◌≡◌, ℕ, suc, ◌-◌, ◌+◌, ◌≤◌, ◌<◌, List, [], ◌∷◌, ◌++◌, Result, Ok, Err, refl, sym, ap, ◌∙◌, append_assoc, arith, length}
use Rattle.std.proofs.lemmas.List.{append-nil}
use Rattle.image_model.specs.declared.error.ImageError.{ImageError}
use Rattle.image_model.specs.declared.error.ImageErrorKind.TheVariants.{Trailing}
use Rattle.fault_model.specs.declared.fault.Fault.{Fault}
use Rattle.fault_model.specs.declared.fault.Fault.TheVariants as faults
use Rattle.fault_model.specs.Gives.{Fails}
use Rattle.image_model.specs.declared.format.Format.{Format}
use Rattle.image_model.specs.Image.{Segment, last_page, IsSegment, AreSegments}
use Rattle.image_model.specs.Reading.{◌>>=◌, fault, segment_at, segments_at}

-- what was read before, and what is still read
abbrev pub with_front : List Segment → Result (List Segment) ImageError → Result (List Segment) ImageError
with_front front read = read >>= λ x. Ok (front ++ x)

regroup : (front : List Segment) (n : Segment) (read : Result (List Segment) ImageError) → with_front front (read >>= λ x. Ok (n ∷ x)) ≡ with_front (front ++ n ∷ []) read
regroup front n (Ok x) = ap (λ (ns : List Segment). Ok ns) (simp append_assoc)
regroup front n (Err f) = refl

pub goes_on : (format : Format) (front : List Segment) (count i page at : ℕ) (bytes : List ℕ) (s : Segment) (after : List ℕ) (total : Result (List Segment) ImageError) → i < count → segment_at format page at bytes ≡ Ok (s, after)
    → with_front front (segments_at format (count - i) page at bytes) ≡ total → with_front (front ++ s ∷ []) (segments_at format (count - (i + 1)) (last_page s + 1) (at + (9 + length s.content)) after) ≡ total
unfolding segments_at
goes_on format front count i page at bytes s after total lt h so_far =
    let k : count - i ≡ suc (count - (i + 1)) = omega arith in
    let place : at + (9 + length s.content) ≡ at + 9 + length s.content = omega arith in
    let one : with_front front (segments_at format (count - i) page at bytes) ≡ with_front (front ++ s ∷ []) (segments_at format (count - (i + 1)) (last_page s + 1) (at + (9 + length s.content)) after) =
    rw (place, k, h) (regroup front s (segments_at format (count - (i + 1)) (last_page s + 1) (at + 9 + length s.content) after)) in
    sym one ∙ so_far

pub ends : (format : Format) (e : Fault ImageError) (front : List Segment) (count i page at : ℕ) (bytes : List ℕ) (total : Result (List Segment) ImageError) → i < count → Fails e (segment_at format page at bytes)
    → with_front front (segments_at format (count - i) page at bytes) ≡ total → Fails e total
unfolding segments_at
ends format faults.Memory front count i page at bytes total lt h so_far = tt
ends format (faults.Bad f) front count i page at bytes total lt h so_far =
    let k : count - i ≡ suc (count - (i + 1)) = omega arith in
    let one : with_front front (segments_at format (count - i) page at bytes) ≡ Err f = rw (k, h) refl in
    sym so_far ∙ one

pub is_done : (format : Format) (front : List Segment) (count i page at : ℕ) (bytes : List ℕ) (total : Result (List Segment) ImageError) → count ≤ i → length bytes ≡ 0 → with_front front (segments_at format (count - i) page at bytes) ≡ total → total ≡ Ok front
unfolding segments_at
is_done format front count i page at [] total le none so_far =
    let k : count - i ≡ 0 = omega arith in
    let one : with_front front (segments_at format (count - i) page at []) ≡ Ok front = rw k (ap (λ (ns : List Segment). Ok ns) (append-nil front)) in
    sym so_far ∙ one
is_done format front count i page at (b ∷ bytes) total le none so_far = absurd (omega (arith, none))

pub is_trailing : (format : Format) (front : List Segment) (count i page at : ℕ) (bytes : List ℕ) (total : Result (List Segment) ImageError) → count ≤ i → 0 < length bytes → with_front front (segments_at format (count - i) page at bytes) ≡ total → total ≡ fault at Trailing
unfolding segments_at
is_trailing format front count i page at [] total le some so_far = absurd (omega (arith, some))
is_trailing format front count i page at (b ∷ bytes) total le some so_far =
    let k : count - i ≡ 0 = omega arith in
    let one : with_front front (segments_at format (count - i) page at (b ∷ bytes)) ≡ fault at Trailing = rw k refl in
    sym so_far ∙ one

-- the page from which a next segment may begin
abbrev pub page_after : ℕ → List Segment → ℕ
page_after page [] = page
page_after page (s ∷ ss) = page_after (last_page s + 1) ss

pub AreSegments-push : (page : ℕ) (ss : List Segment) (s : Segment) → AreSegments page ss → IsSegment (page_after page ss) s → AreSegments page (ss ++ s ∷ [])
AreSegments-push page [] s h g = (g, tt)
AreSegments-push page (t ∷ ts) s h g = (h.0, AreSegments-push (last_page t + 1) ts s h.1 g)

pub page_after-push : (page : ℕ) (ss : List Segment) (s : Segment) → page_after page (ss ++ s ∷ []) ≡ last_page s + 1
page_after-push page [] s = refl
page_after-push page (t ∷ ts) s = page_after-push (last_page t + 1) ts s
