-- The draft that is read along with the lines is that of what they do.
use Rattle.std.proofs.Common.{◌≡◌, ℕ, ◌+◌, Bool, true, false, cond, List, [], ◌∷◌, ◌++◌, length, Option, Some, None, refl, sym, ◌∙◌, ap, arith}
use Rattle.std.specs.Prelude.{nat_lt, unwrap_or, reverse, fold}
use Rattle.std.proofs.lemmas.List.{reverse-append}
use borrow.Author.Tests.{ltb-false}
use Rattle.image_model.specs.declared.format.Format.{Format}
use Rattle.image_model.specs.Image.{Segment, format_of, permission_of, image_bytes}
use Rattle.source_model.specs.declared.statement.Layout.{Layout}
use Rattle.source_model.specs.declared.statement.Statement.TheVariants as statements
use Rattle.source_model.specs.Layout as layouts
use Rattle.source_model.specs.Meaning as model
use Rattle.source_model.specs.Meaning.{Effect, segment, with_content, with_bytes, with_effect, image_of}
use Rattle.source_model.specs.Reading.{Draft, all_segments, size_with, or_first, draft_with, draft_image}
use Rattle.source_model.proofs.Segments.{top_of, layout_of, has_no_room, room-same, more-layout, begun-layout}
use Rattle.source_model.proofs.Sizes.{segments_size, IsSized, extend-size, spelling-size}

abbrev none_yet : Segment
none_yet = record { address = 0; permission = 0; content = [] }

abbrev pub head_of : List Segment → Segment
head_of [] = none_yet
head_of (s ∷ ss) = s

abbrev pub tail_of : List Segment → List Segment
tail_of [] = []
tail_of (s ∷ ss) = ss

abbrev pub first_of : List Segment → Option ℕ
first_of [] = None
first_of (s ∷ []) = Some s.address
first_of (s ∷ t ∷ ss) = first_of (t ∷ ss)

-- the segments that have bytes, the last one last
abbrev pub in_order : List Segment → List Segment
in_order ss = reverse (with_content ss)

abbrev pub file_size : List Segment → ℕ
file_size ss = 14 + segments_size (in_order ss)

abbrev pub draft_at : Format → List Segment → Option ℕ → ℕ → Draft
draft_at f ss e k = record { layout = layout_of f ss; base = (head_of ss).address; permission = (head_of ss).permission; content = (head_of ss).content; segments = in_order (tail_of ss); first = first_of ss; entry = e; stack = k; size = file_size ss }

abbrev pub view : model.Draft → Draft
view d = draft_at d.format d.segments d.entry d.stack

filled : (b : ℕ) (bs : List ℕ) (t : Bool) → nat_lt 0 (length (b ∷ bs)) ≡ t → t ≡ true
filled b bs true e = refl
filled b bs false e = absurd (omega (arith, ltb-false 0 (length (b ∷ bs)) e))

last-step : (s : Segment) (ss : List Segment) (t : Bool) → t ≡ true → reverse ss ++ s ∷ [] ≡ reverse (cond t (s ∷ ss) ss)
last-step s ss true e = sym (reverse-append (s ∷ []) ss)
last-step s ss false e = cc

close-is : (a p : ℕ) (content : List ℕ) (ss : List Segment) → all_segments a p content (in_order ss) ≡ in_order (record { address = a; permission = p; content = content } ∷ ss)
close-is a p [] ss = refl
close-is a p (b ∷ bs) ss = last-step (record { address = a; permission = p; content = b ∷ bs }) (with_content ss) (nat_lt 0 (length (b ∷ bs))) (filled b bs (nat_lt 0 (length (b ∷ bs))) refl)

-- the segments with bytes, the last one among them
pub all_segments-same : (ss : List Segment) → all_segments (head_of ss).address (head_of ss).permission (head_of ss).content (in_order (tail_of ss)) ≡ in_order ss
all_segments-same [] = refl
all_segments-same (s ∷ ss) = close-is s.address s.permission s.content ss

sized : (f : Format) (ss : List Segment) (e : Option ℕ) (k : ℕ) → IsSized (draft_at f ss e k)
sized f ss e k = ap (λ (l : List Segment). 14 + segments_size l) (sym (all_segments-same ss))

-- ---- bytes

-- a draft with so many bytes more
abbrev with_more : Draft → ℕ → List ℕ → Draft
with_more d n b = record d { layout = layouts.further d.layout.reached d.layout n; content = d.content ++ b; size = size_with d n }

abbrev shaped : Segment → List Segment → Option ℕ → ℕ → Layout → ℕ → List ℕ → Draft
shaped s ss e k l z content = record { layout = l; base = s.address; permission = s.permission; content = content; segments = in_order ss; first = first_of (s ∷ ss); entry = e; stack = k; size = z }

same-draft : (s : Segment) (ss : List Segment) (e : Option ℕ) (k : ℕ) (l m : Layout) (z y : ℕ) (content : List ℕ) → l ≡ m → z ≡ y → shaped s ss e k l z content ≡ shaped s ss e k m y content
same-draft s ss e k l m z y content f g = rw (f, g) refl

first-kept : (s t : Segment) (ss : List Segment) → s.address ≡ t.address → first_of (s ∷ ss) ≡ first_of (t ∷ ss)
first-kept s t [] e = ap (λ (n : ℕ). Some n) e
first-kept s t (u ∷ ss) e = refl

none-there : (b : List ℕ) → has_no_room [] b ≡ false → length b ≡ 0
none-there [] h = refl
none-there (b ∷ bs) h = let room : layouts.bytes_out_of_place None (length (b ∷ bs)) ≡ false = room-same [] (b ∷ bs) ∙ h in absurd (omega (arith, ltb-false 0 (length (b ∷ bs)) room))

-- the size of the file with bytes more
pub size-grown : (f : Format) (ss : List Segment) (e : Option ℕ) (k : ℕ) (b : List ℕ) (n : ℕ) → length b ≡ n → has_no_room ss b ≡ false → size_with (draft_at f ss e k) n ≡ file_size (with_bytes ss b)
size-grown f [] e k b n counted room =
    let none : n ≡ 0 = sym counted ∙ none-there b room in
    rw none refl
size-grown f (s ∷ ss) e k b n counted room = extend-size (draft_at f (s ∷ ss) e k) b n (sized f (s ∷ ss) e k) counted ∙ ap (λ (l : List Segment). 14 + segments_size l) (close-is s.address s.permission (s.content ++ b) ss)

nil-bytes : (b : List ℕ) → length b ≡ 0 → b ≡ []
nil-bytes [] h = refl
nil-bytes (b ∷ bs) h = absurd (omega (arith, h))

pub grows : (f : Format) (ss : List Segment) (e : Option ℕ) (k : ℕ) (b : List ℕ) (n : ℕ) → length b ≡ n → has_no_room ss b ≡ false → with_more (draft_at f ss e k) n b ≡ draft_at f (with_bytes ss b) e k
grows f [] e k b n counted room =
    let none : n ≡ 0 = sym counted ∙ none-there b room in
    let nil : b ≡ [] = nil-bytes b (none-there b room) in
    rw (none, nil) refl
grows f (s ∷ ss) e k b n counted room =
    same-draft s ss e k (layouts.further (top_of (s ∷ ss)) (layout_of f (s ∷ ss)) n) (layout_of f (with_bytes (s ∷ ss) b)) (size_with (draft_at f (s ∷ ss) e k) n) (file_size (with_bytes (s ∷ ss) b)) (s.content ++ b) (more-layout f (s ∷ ss) b n counted) (size-grown f (s ∷ ss) e k b n counted room)
    ∙ ap (λ (first : Option ℕ). record (draft_at f (with_bytes (s ∷ ss) b) e k) { first = first }) (first-kept s (record s { content = s.content ++ b }) ss refl)

-- ---- a segment begins

first-stays : (s : Segment) (ss : List Segment) (a : ℕ) → or_first (first_of (s ∷ ss)) a ≡ first_of (s ∷ ss)
first-stays s [] a = refl
first-stays s (t ∷ ss) a = first-stays t ss a

first-more : (ss : List Segment) (a p : ℕ) → or_first (first_of ss) a ≡ first_of (record { address = a; permission = p; content = [] } ∷ ss)
first-more [] a p = refl
first-more (s ∷ ss) a p = first-stays s ss a

abbrev begun_at : List Segment → Option ℕ → ℕ → ℕ → ℕ → Layout → List Segment → Option ℕ → Draft
begun_at ss e k a p l segments first = record { layout = l; base = a; permission = p; content = []; segments = segments; first = first; entry = e; stack = k; size = file_size ss }

same-begun : (ss : List Segment) (e : Option ℕ) (k a p : ℕ) (l m : Layout) (t u : List Segment) (f g : Option ℕ) → l ≡ m → t ≡ u → f ≡ g → begun_at ss e k a p l t f ≡ begun_at ss e k a p m u g
same-begun ss e k a p l m t u f g h i j = rw (h, i, j) refl

pub begins : (d : model.Draft) (a p v : ℕ) → draft_with (view d) (statements.Segment a p) v ≡ view (with_effect d (segment a p))
begins d a p v =
    let ss : List Segment = d.segments in
    let q : ℕ = permission_of d.format p in
    same-begun ss d.entry d.stack a q (layouts.after (layout_of d.format ss) (statements.Segment a p)) (layout_of d.format (record { address = a; permission = q; content = [] } ∷ ss))
    (all_segments (head_of ss).address (head_of ss).permission (head_of ss).content (in_order (tail_of ss))) (in_order ss)
    (or_first (first_of ss) a) (first_of (record { address = a; permission = q; content = [] } ∷ ss))
    (begun-layout d.format ss a q) (all_segments-same ss) (first-more ss a q)

-- ---- the image

first-address : (ss : List Segment) → unwrap_or (first_of ss) 0 ≡ fold (λ (a : ℕ) (s : Segment). s.address) 0 ss
first-address [] = refl
first-address (s ∷ []) = refl
first-address (s ∷ t ∷ ss) = first-address (t ∷ ss)

pub image-same : (d : model.Draft) → draft_image (view d) ≡ image_of d
image-same d = rw (first-address, all_segments-same) refl

pub image-size : (d : model.Draft) → length (image_bytes (image_of d)) ≡ file_size d.segments
image-size d = spelling-size (format_of (image_of d)) (image_of d)
