-- What is read is spelled so, and what is spelled so is read.
use Rattle.std.proofs.Common.{◌≡◌, ℕ, zero, suc, ◌+◌, ◌^◌, ◌<◌, true, List, [], ◌∷◌, ◌++◌, length, Result, Ok, Err, refl, sym, ap, subst, ◌∙◌, append_assoc, arith}
use Rattle.std.specs.Prelude.{IsErr}
use Rattle.std.specs.Int.{w16, w32, to_le_bytes}
use Rattle.std.specs.List.{flat_map}
use Rattle.std.proofs.lemmas.Bool.{and_parts}
use Rattle.std.proofs.lemmas.List.Concat.{flat_map-cons}
use Rattle.image_model.specs.declared.error.ImageError.{ImageError}
use Rattle.image_model.specs.declared.format.Format.{Format}
use Rattle.image_model.specs.Image.{Segment, Image, mark, permission_byte, has_permission, has_permissions, segment_bytes, spelling, last_page, IsSegment, AreSegments, IsImage, ImageOf}
use Rattle.image_model.specs.Reading.{IsBytes, ◌>>=◌, number_at, content_at, magic_at, count_at, address_at, permission_at, length_at, segment_at, segments_at, image_of}
use Rattle.image_model.proofs.Fields.{bind_ok, ok_is, Takes, Takes-then, wide32, number_takes, number_again, content_takes, content_again, magic_takes, magic_again, count_takes, count_again, address_takes, address_again, permission_takes, permission_again, IsLength, length_takes, length_again}

-- ---- one segment

segment_takes : (format : Format) (page at : ℕ) (bytes : List ℕ) (x : Segment × List ℕ) → IsBytes bytes → segment_at format page at bytes ≡ Ok x → Takes bytes (segment_bytes format x.0) x.1 × IsSegment page x.0 × (has_permission format x.0.permission ≡ true)
unfolding segment_at
segment_takes format page at bytes x fits e =
    let a = bind_ok (address_at page at bytes) (λ a. permission_at format (at + 4) a.1 >>= λ p. length_at a.0 (at + 5) p.1 >>= λ n. content_at n.0 (at + 9) n.1 >>= λ c. Ok (record { address = a.0; permission = p.0; content = c.0 }, c.1)) x e in
    let p = bind_ok (permission_at format (at + 4) a.0.1) (λ p. length_at a.0.0 (at + 5) p.1 >>= λ n. content_at n.0 (at + 9) n.1 >>= λ c. Ok (record { address = a.0.0; permission = p.0; content = c.0 }, c.1)) x a.2 in
    let n = bind_ok (length_at a.0.0 (at + 5) p.0.1) (λ n. content_at n.0 (at + 9) n.1 >>= λ c. Ok (record { address = a.0.0; permission = p.0.0; content = c.0 }, c.1)) x p.2 in
    let c = bind_ok (content_at n.0.0 (at + 9) n.0.1) (λ c. Ok (record { address = a.0.0; permission = p.0.0; content = c.0 }, c.1)) x n.2 in
    let byte = permission_byte format p.0.0 in
    let ta = address_takes page at bytes a.0 fits a.1 in
    let tp = permission_takes format (at + 4) a.0.1 p.0 ta.0.rest_fits p.1 in
    let tn = length_takes a.0.0 (at + 5) p.0.1 n.0 tp.0.rest_fits n.1 in
    let tc = content_takes n.0.0 (at + 9) n.0.1 c.0 tn.0.rest_fits c.1 in
    let len : n.0.0 ≡ length c.0.0 = sym tc.1 in
    let counted : Takes p.0.1 (to_le_bytes w32 (length c.0.0) ++ c.0.0) c.0.1 =
    subst (λ (k : ℕ). Takes p.0.1 (to_le_bytes w32 k ++ c.0.0) c.0.1) len (Takes-then p.0.1 (to_le_bytes w32 n.0.0) n.0.1 c.0.0 c.0.1 tn.0 tc.0) in
    let allowed = Takes-then a.0.1 (byte ∷ []) p.0.1 (to_le_bytes w32 (length c.0.0) ++ c.0.0) c.0.1 tp.0 counted in
    let whole = Takes-then bytes (to_le_bytes w32 a.0.0) a.0.1 (byte ∷ (to_le_bytes w32 (length c.0.0) ++ c.0.0)) c.0.1 ta.0 allowed in
    let fit : IsLength a.0.0 (length c.0.0) = subst (λ (k : ℕ). IsLength a.0.0 k) len tn.1 in
    let made : Segment × List ℕ = (record { address = a.0.0; permission = p.0.0; content = c.0.0 }, c.0.1) in
    subst (λ (y : Segment × List ℕ). Takes bytes (segment_bytes format y.0) y.1 × IsSegment page y.0 × (has_permission format y.0.permission ≡ true)) (ok_is made x c.2) (whole, record { order = ta.1; permission = tp.1.most; filled = fit.filled; short = fit.short; range = fit.range }, tp.1.has)

segment_again : (format : Format) (page at : ℕ) (s : Segment) (rest : List ℕ) → IsSegment page s → has_permission format s.permission ≡ true → segment_at format page at (segment_bytes format s ++ rest) ≡ Ok (s, rest)
unfolding segment_at
segment_again format page at s rest h has =
    let byte = permission_byte format s.permission in
    let numbered = to_le_bytes w32 (length s.content) in
    let regrouped : segment_bytes format s ++ rest ≡ to_le_bytes w32 s.address ++ (byte ∷ (numbered ++ (s.content ++ rest))) =
    append_assoc (to_le_bytes w32 s.address) (byte ∷ (numbered ++ s.content)) rest ∙ ap (λ (x : List ℕ). to_le_bytes w32 s.address ++ (byte ∷ x)) (append_assoc numbered s.content rest) in
    let low : s.address < 2 ^ 32 = omega (arith, h.range, h.filled) in
    ap (segment_at format page at) regrouped
    ∙ rw (address_again page at s.address (byte ∷ (numbered ++ (s.content ++ rest))) low h.order, permission_again format (at + 4) s.permission (numbered ++ (s.content ++ rest)) (record { most = h.permission; has = has }), length_again s.address (at + 5) (length s.content) (s.content ++ rest) (record { filled = h.filled; short = h.short; range = h.range }), content_again (at + 9) s.content rest) refl

-- ---- several segments

pub record IsRead (format : Format) (page n : ℕ) (bytes : List ℕ) (ss : List Segment) : Type 0 where
  pub spelled : bytes ≡ flat_map (segment_bytes format) ss
  pub count : length ss ≡ n
  pub sound : AreSegments page ss
  pub permissions : has_permissions format ss ≡ true

segments_take : (format : Format) (n page at : ℕ) (bytes : List ℕ) (ss : List Segment) → IsBytes bytes → segments_at format n page at bytes ≡ Ok ss → IsRead format page n bytes ss
unfolding segments_at
segments_take format zero page at [] ss fits e = subst (λ (v : List Segment). IsRead format page 0 [] v) (ok_is [] ss e) (record { spelled = refl; count = refl; sound = tt; permissions = refl })
segments_take format zero page at (b ∷ bytes) ss fits e = absurd cc
segments_take format (suc n) page at bytes ss fits e =
    let a = bind_ok (segment_at format page at bytes) (λ s. segments_at format n (last_page s.0 + 1) (at + 9 + length s.0.content) s.1 >>= λ others. Ok (s.0 ∷ others)) ss e in
    let b = bind_ok (segments_at format n (last_page a.0.0 + 1) (at + 9 + length a.0.0.content) a.0.1) (λ others. Ok (a.0.0 ∷ others)) ss a.2 in
    let first = segment_takes format page at bytes a.0 fits a.1 in
    let second = segments_take format n (last_page a.0.0 + 1) (at + 9 + length a.0.0.content) a.0.1 b.0 first.0.rest_fits b.1 in
    let whole : bytes ≡ flat_map (segment_bytes format) (a.0.0 ∷ b.0) = first.0.parts ∙ ap (λ (x : List ℕ). segment_bytes format a.0.0 ++ x) second.spelled ∙ sym (flat_map-cons (segment_bytes format) a.0.0 b.0) in
    let permitted : has_permissions format (a.0.0 ∷ b.0) ≡ true = rw (first.2, second.permissions) refl in
    subst (λ (v : List Segment). IsRead format page (suc n) bytes v) (ok_is (a.0.0 ∷ b.0) ss b.2) (record { spelled = whole; count = ap suc second.count; sound = (first.1, second.sound); permissions = permitted })

segments_again : (format : Format) (page at : ℕ) (ss : List Segment) → AreSegments page ss → has_permissions format ss ≡ true → segments_at format (length ss) page at (flat_map (segment_bytes format) ss) ≡ Ok ss
unfolding segments_at
segments_again format page at [] h has = refl
segments_again format page at (s ∷ ss) h has =
    let each = and_parts (has_permission format s.permission) (has_permissions format ss) has in
    ap (segments_at format (suc (length ss)) page at) (flat_map-cons (segment_bytes format) s ss)
    ∙ rw (segment_again format page at s (flat_map (segment_bytes format) ss) h.0 each.0, segments_again format (last_page s + 1) (at + 9 + length s.content) ss h.1 each.1) refl

-- ---- an image

pub image_takes : (bytes : List ℕ) (i : Image) → IsBytes bytes → image_of bytes ≡ Ok i → ImageOf bytes i
unfolding image_of
image_takes bytes i fits e =
    let m = bind_ok (magic_at 0 bytes) (λ m. number_at w32 4 m.1 >>= λ n. number_at w32 8 n.1 >>= λ s. count_at 12 s.1 >>= λ c. segments_at m.0 c.0 0 14 c.1 >>= λ ss. Ok (record { entry = n.0; stack = s.0; segments = ss })) i e in
    let format = m.0.0 in
    let n = bind_ok (number_at w32 4 m.0.1) (λ n. number_at w32 8 n.1 >>= λ s. count_at 12 s.1 >>= λ c. segments_at format c.0 0 14 c.1 >>= λ ss. Ok (record { entry = n.0; stack = s.0; segments = ss })) i m.2 in
    let s = bind_ok (number_at w32 8 n.0.1) (λ s. count_at 12 s.1 >>= λ c. segments_at format c.0 0 14 c.1 >>= λ ss. Ok (record { entry = n.0.0; stack = s.0; segments = ss })) i n.2 in
    let c = bind_ok (count_at 12 s.0.1) (λ c. segments_at format c.0 0 14 c.1 >>= λ ss. Ok (record { entry = n.0.0; stack = s.0.0; segments = ss })) i s.2 in
    let g = bind_ok (segments_at format c.0.0 0 14 c.0.1) (λ ss. Ok (record { entry = n.0.0; stack = s.0.0; segments = ss })) i c.2 in
    let tm = magic_takes 0 bytes m.0 fits m.1 in
    let tn = number_takes w32 (2 ^ 32) wide32 4 m.0.1 n.0 tm.rest_fits n.1 in
    let ts = number_takes w32 (2 ^ 32) wide32 8 n.0.1 s.0 tn.0.rest_fits s.1 in
    let tc = count_takes 12 s.0.1 c.0 ts.0.rest_fits c.1 in
    let tg = segments_take format c.0.0 0 14 c.0.1 g.0 tc.0.rest_fits g.1 in
    let segments = flat_map (segment_bytes format) g.0 in
    let counted : s.0.1 ≡ to_le_bytes w16 (length g.0) ++ segments = tc.0.parts ∙ ap (λ (x : List ℕ). to_le_bytes w16 c.0.0 ++ x) tg.spelled ∙ ap (λ (k : ℕ). to_le_bytes w16 k ++ segments) (sym tg.count) in
    let stacked : n.0.1 ≡ to_le_bytes w32 s.0.0 ++ (to_le_bytes w16 (length g.0) ++ segments) = ts.0.parts ∙ ap (λ (x : List ℕ). to_le_bytes w32 s.0.0 ++ x) counted in
    let entered : m.0.1 ≡ to_le_bytes w32 n.0.0 ++ (to_le_bytes w32 s.0.0 ++ (to_le_bytes w16 (length g.0) ++ segments)) = tn.0.parts ∙ ap (λ (x : List ℕ). to_le_bytes w32 n.0.0 ++ x) stacked in
    let made : Image = record { entry = n.0.0; stack = s.0.0; segments = g.0 } in
    let whole : bytes ≡ spelling format made = tm.parts ∙ ap (λ (x : List ℕ). mark format ++ x) entered in
    subst (λ (y : Image). ImageOf bytes y) (ok_is made i g.2) (record { sound = record { entry = tn.1; stack = ts.1; count = omega (arith, tg.count, tc.1); segments = tg.sound }; format = format; permissions = tg.permissions; spelled = whole })

pub spelling_again : (format : Format) (i : Image) → IsImage i → has_permissions format i.segments ≡ true → image_of (spelling format i) ≡ Ok i
unfolding image_of
spelling_again format i h has =
    let segments = flat_map (segment_bytes format) i.segments in
    let counted = to_le_bytes w16 (length i.segments) ++ segments in
    let stacked = to_le_bytes w32 i.stack ++ counted in
    rw (magic_again format 0 (to_le_bytes w32 i.entry ++ stacked), number_again w32 (2 ^ 32) wide32 4 i.entry stacked h.entry, number_again w32 (2 ^ 32) wide32 8 i.stack counted h.stack, count_again 12 (length i.segments) segments h.count, segments_again format 0 14 i.segments h.segments has) refl

pub image_reads : (bytes : List ℕ) (i : Image) → ImageOf bytes i → image_of bytes ≡ Ok i
image_reads bytes i h = ap image_of h.spelled ∙ spelling_again h.format i h.sound h.permissions

pub one : (bytes : List ℕ) (i j : Image) → ImageOf bytes i → ImageOf bytes j → i ≡ j
one bytes i j h k = ok_is i j (sym (image_reads bytes i h) ∙ image_reads bytes j k)

is_refused : (bytes : List ℕ) (r : Result Image ImageError) → r ≡ image_of bytes → IsErr r → (i : Image) → ImageOf bytes i → ⊥
is_refused bytes (Ok x) e h i k = absurd cc
is_refused bytes (Err d) e h i k = let back = image_reads bytes i k in cc

refuses : (bytes : List ℕ) (r : Result Image ImageError) → IsBytes bytes → r ≡ image_of bytes → ((i : Image) → ImageOf bytes i → ⊥) → IsErr r
refuses bytes (Ok x) fits e none = absurd (none x (image_takes bytes x fits (sym e)))
refuses bytes (Err d) fits e none = refl

pub refuses_the_rest : (bytes : List ℕ) → IsBytes bytes → (IsErr (image_of bytes) → (i : Image) → ImageOf bytes i → ⊥) × (((i : Image) → ImageOf bytes i → ⊥) → IsErr (image_of bytes))
refuses_the_rest bytes fits = (is_refused bytes (image_of bytes) refl, refuses bytes (image_of bytes) fits refl)
