-- The segments of a draft are those of an image.
use Rattle.std.proofs.Common.{◌≡◌, ℕ, ◌+◌, ◌*◌, ◌/◌, ◌<◌, ◌≤◌, ◌^◌, Bool, true, false, List, [], ◌∷◌, ◌++◌, length, Option, Some, None, Result, Ok, Err, refl, sym, ◌∙◌, ap, subst, arith, length-append}
use Rattle.std.specs.Prelude.{cond, nat_lt, nat_le, ◌==◌, ◌&&◌, ◌||◌}
use borrow.Author.Tests.{ltb-false, leb-false, eqb-true, eqb-false, lt-ltb}
use Rattle.memory_model.specs.Sizes.{page_size, greatest_permission}
use Rattle.image_model.specs.declared.format.Format.{Format}
use Rattle.image_model.specs.declared.format.Format.TheVariants as formats
use Rattle.image_model.specs.Image as model
use Rattle.image_model.specs.Image.{AreSegments, IsSegment, last_page, greatest_byte, permission_of, image_bytes}
use Rattle.image_file.proofs.Loop.{page_after, AreSegments-push, page_after-push}
use Rattle.source_model.specs.declared.error.AsmError.{AsmError}
use Rattle.source_model.specs.declared.error.AsmErrorKind.{AsmErrorKind}
use Rattle.source_model.specs.declared.error.AsmErrorKind.TheVariants as kinds
use Rattle.source_model.specs.declared.statement.Statement.{Statement}
use Rattle.source_model.specs.declared.statement.Statement.TheVariants.{Nothing, Plain, Branch, Jump, LoadImmediate, Segment, Dti2, Entry, Stack, Word, Byte, Zero}
use Rattle.source_model.specs.declared.statement.Layout.{Layout}
use Rattle.source_model.specs.Layout.{size_of, bytes_out_of_place, segment_out_of_place, is_out_of_place, further, address_in}
use Rattle.source_model.specs.Reading.{Draft, Labels, limit, bytes_of, blank, all_segments, size_with, draft_with, check_line, with_value, is_too_far, is_defined_before, in_line, with_line, with_lines, worth_of, operand_of, draft_image}
use Rattle.source_model.proofs.Sizes.{size-bytes, IsSized, apply-size, file-size}
use Rattle.source_model.specs.Line.{label_of, statement_in}
use Rattle.source_model.specs.Bytes.{is_empty}
use Rattle.source_model.specs.Text.{◌>>=◌}
use Rattle.source_model.specs.Statement.{Read}

-- what stands in the segment that began last, and how many are closed
abbrev pub Reaches : Option ℕ → ℕ → ℕ → ℕ → ℕ → Type 0
Reaches None base len closed_count begun = (len ≡ 0) × (closed_count ≤ begun)
Reaches (Some a) base len closed_count begun = (a ≡ base + len) × (closed_count + 1 ≤ begun)

pub record IsSoundAt (here : Layout) (base permission len size : ℕ) (ss : List model.Segment) : Type 0 where
  pub segments : AreSegments 0 ss
  pub order : page_after 0 ss ≤ base / page_size
  pub permitted : permission ≤ greatest_permission
  pub pages : page_after 0 ss * page_size ≤ here.used + 4095
  pub filled : 0 < len → (base + len ≡ here.used) × (here.used ≤ 2 ^ 32)
  pub reached : Reaches here.reached base len (length ss) here.begun
  pub few : here.begun ≤ 64
  pub short : len ≤ size
  pub room : size ≤ 16777216

abbrev pub IsSound : Draft → Type 0
IsSound d = IsSoundAt d.layout d.base d.permission (length d.content) d.size d.segments

pub blank-sound : IsSound blank
blank-sound = record { segments = tt; order = omega arith; permitted = omega arith; pages = omega arith; filled = λ lt. absurd (omega (arith, lt)); reached = (refl, omega arith); few = omega arith; short = omega arith; room = omega arith }

-- ---- closing

pub record IsClosed (used begun : ℕ) (ss : List model.Segment) : Type 0 where
  pub segments : AreSegments 0 ss
  pub pages : page_after 0 ss * page_size ≤ used + 4095
  pub count : length ss ≤ begun

count-of : (r : Option ℕ) (base len count begun : ℕ) → Reaches r base len count begun → (count ≤ begun) × (0 < len → count + 1 ≤ begun)
count-of None base len count begun h = (h.1, λ lt. absurd (omega (arith, lt, h.0)))
count-of (Some a) base len count begun h = (omega (arith, h.1), λ lt. h.1)

close-at : (here : Layout) (base permission size : ℕ) (content : List ℕ) (ss : List model.Segment) → IsSoundAt here base permission (length content) size ss → IsClosed here.used here.begun (all_segments base permission content ss)
close-at here base permission size [] ss h = record { segments = h.segments; pages = h.pages; count = (count-of here.reached base 0 (length ss) here.begun h.reached).0 }
close-at here base permission size (b ∷ bs) ss h =
    let s : model.Segment = record { address = base; permission = permission; content = b ∷ bs } in
    let some : 0 < length (b ∷ bs) = omega arith in
    let at_end = h.filled some in
    let short : length (b ∷ bs) ≤ size = h.short in
    let room : size ≤ 16777216 = h.room in
    let is : IsSegment (page_after 0 ss) s = record { order = h.order; permission = h.permitted; filled = some; short = omega (arith, short, room); range = omega (arith, at_end.0, at_end.1) } in
    let count : length ss + 1 ≤ here.begun = (count-of here.reached base (length (b ∷ bs)) (length ss) here.begun h.reached).1 some in
    record {
      segments = AreSegments-push 0 ss s h.segments is;
      pages = rw page_after-push (omega (arith, at_end.0));
      count = omega (arith, length-append ss (s ∷ []), count);
    }

pub is-closed : (d : Draft) → IsSound d → IsClosed d.layout.used d.layout.begun (all_segments d.base d.permission d.content d.segments)
is-closed d h = close-at d.layout d.base d.permission d.size d.content d.segments h

pub count-closed : (d : Draft) → IsSound d → length (all_segments d.base d.permission d.content d.segments) ≤ 64
count-closed d h = omega (arith, (is-closed d h).count, h.few)

-- ---- bytes

and-second : (x y : Bool) → (x && y) ≡ false → x ≡ true → y ≡ false
and-second true y h t = h
and-second false y h t = cc

some-step : (f : Format) (a used begun base permission len size size2 n : ℕ) (ss : List model.Segment) (t : Bool) → (n == 0) ≡ t → IsSoundAt (record { format = f; reached = Some a; used = used; begun = begun }) base permission len size ss
    → bytes_out_of_place (Some a) n ≡ false → len + n ≤ size2 → size2 ≤ 16777216 → IsSoundAt (further (Some a) (record { format = f; reached = Some a; used = used; begun = begun }) n) base permission (len + n) size2 ss
some-step f a used begun base permission len size size2 n ss true e h fits short room =
    let none : n ≡ 0 = eqb-true n 0 e in
    let same : len + n ≡ len = omega arith in
    let short2 : len ≤ size2 = omega arith in
    rw (e, same) record { segments = h.segments; order = h.order; permitted = h.permitted; pages = h.pages; filled = h.filled; reached = h.reached; few = h.few; short = short2; room = room }
some-step f a used begun base permission len size size2 n ss false e h fits short room =
    let some : n ≡ 0 → ⊥ = eqb-false n 0 e in
    let more : 0 < n = omega (arith, some) in
    let end : a + n ≤ 2 ^ 32 = ltb-false (2 ^ 32) (a + n) (and-second (nat_lt 0 n) (nat_lt (2 ^ 32) (a + n)) fits (lt-ltb 0 n more)) in
    let at_end : a ≡ base + len = h.reached.0 in
    let order : page_after 0 ss ≤ base / page_size = h.order in
    rw e record {
      segments = h.segments;
      order = h.order;
      permitted = h.permitted;
      pages = omega (arith, order, at_end);
      filled = λ lt. (omega (arith, at_end), end);
      reached = (omega (arith, at_end), h.reached.1);
      few = h.few;
      short = short;
      room = room;
    }

extend-at : (f : Format) (r : Option ℕ) (used begun base permission len size size2 n : ℕ) (ss : List model.Segment) → IsSoundAt (record { format = f; reached = r; used = used; begun = begun }) base permission len size ss
    → bytes_out_of_place r n ≡ false → len + n ≤ size2 → size2 ≤ 16777216 → IsSoundAt (further r (record { format = f; reached = r; used = used; begun = begun }) n) base permission (len + n) size2 ss
extend-at f None used begun base permission len size size2 n ss h fits short room =
    let none : n ≤ 0 = ltb-false 0 n fits in
    let same : len + n ≡ len = omega arith in
    let short2 : len ≤ size2 = omega arith in
    rw same record { segments = h.segments; order = h.order; permitted = h.permitted; pages = h.pages; filled = h.filled; reached = h.reached; few = h.few; short = short2; room = room }
extend-at f (Some a) used begun base permission len size size2 n ss h fits short room = some-step f a used begun base permission len size size2 n ss (n == 0) refl h fits short room

grows : (size len n extra : ℕ) (t : Bool) → (n == 0) ≡ t → len ≤ size → len + n ≤ cond t size (size + n + extra)
grows size len n extra true e h =
    let none : n ≡ 0 = eqb-true n 0 e in
    omega arith
grows size len n extra false e h = omega arith

extend : (d : Draft) (bytes : List ℕ) (n : ℕ) → IsSound d → length bytes ≡ n → bytes_out_of_place d.layout.reached n ≡ false → nat_lt limit (size_with d n) ≡ false
    → IsSoundAt (further d.layout.reached d.layout n) d.base d.permission (length (d.content ++ bytes)) (size_with d n) d.segments
extend d bytes n h counted fits room =
    let len : length (d.content ++ bytes) ≡ length d.content + n = length-append d.content bytes ∙ ap (λ (k : ℕ). length d.content + k) counted in
    let short : length d.content + n ≤ size_with d n = grows d.size (length d.content) n (cond (is_empty d.content) 9 0) (n == 0) refl h.short in
    rw len (extend-at d.layout.format d.layout.reached d.layout.used d.layout.begun d.base d.permission (length d.content) d.size (size_with d n) n d.segments h fits short (ltb-false limit (size_with d n) room))

-- ---- a segment that begins

or-three : (x y z : Bool) → (x || y || z) ≡ false → (x ≡ false) × (y ≡ false) × (z ≡ false)
or-three true y z h = cc
or-three false true z h = cc
or-three false false true h = cc
or-three false false false h = (refl, refl, refl)

permission-allowed : (f : Format) (p : ℕ) → p ≤ greatest_byte f → permission_of f p ≤ greatest_permission
permission-allowed formats.Dti1 p h = omega (arith, h)
permission-allowed formats.Dti2 p h = h

begin : (d : Draft) (a p v : ℕ) → IsSound d → segment_out_of_place d.layout a p ≡ false → IsSound (draft_with d (Segment a p) v)
begin d a p v h fits =
    let parts = or-three (nat_lt (greatest_byte d.layout.format) p) (nat_lt (a / page_size * page_size) d.layout.used) (nat_le 64 d.layout.begun) fits in
    let permitted : permission_of d.layout.format p ≤ greatest_permission = permission-allowed d.layout.format p (ltb-false (greatest_byte d.layout.format) p parts.0) in
    let above : d.layout.used ≤ a / page_size * page_size = ltb-false (a / page_size * page_size) d.layout.used parts.1 in
    let few : d.layout.begun < 64 = leb-false 64 d.layout.begun parts.2 in
    let old = is-closed d h in
    let pages : page_after 0 (all_segments d.base d.permission d.content d.segments) * page_size ≤ d.layout.used + 4095 = old.pages in
    let count : length (all_segments d.base d.permission d.content d.segments) ≤ d.layout.begun = old.count in
    let room : d.size ≤ 16777216 = h.room in
    record {
      segments = old.segments;
      order = omega (arith, pages, above);
      permitted = permitted;
      pages = pages;
      filled = λ lt. absurd (omega (arith, lt));
      reached = (omega arith, omega (arith, count));
      few = omega (arith, few);
      short = omega arith;
      room = room;
    }

apply : (d : Draft) (s : Statement) (v : ℕ) → IsSound d → is_out_of_place d.layout s ≡ false → nat_lt limit (size_with d (size_of s)) ≡ false → IsSound (draft_with d s v)
apply d Nothing v h fits room = extend d [] 0 h refl fits room
apply d (Plain i) v h fits room = extend d (bytes_of (address_in d.layout.reached) (Plain i) v) 4 h (size-bytes (address_in d.layout.reached) (Plain i) v) fits room
apply d (Branch c a b t) v h fits room = extend d (bytes_of (address_in d.layout.reached) (Branch c a b t) v) 4 h (size-bytes (address_in d.layout.reached) (Branch c a b t) v) fits room
apply d (Jump r t) v h fits room = extend d (bytes_of (address_in d.layout.reached) (Jump r t) v) 4 h (size-bytes (address_in d.layout.reached) (Jump r t) v) fits room
apply d (LoadImmediate r t) v h fits room = extend d (bytes_of (address_in d.layout.reached) (LoadImmediate r t) v) 8 h (size-bytes (address_in d.layout.reached) (LoadImmediate r t) v) fits room
apply d (Segment a p) v h fits room = begin d a p v h fits
apply d Dti2 v h fits room = record { segments = h.segments; order = h.order; permitted = h.permitted; pages = h.pages; filled = h.filled; reached = h.reached; few = h.few; short = h.short; room = h.room }
apply d (Entry t) v h fits room = h
apply d (Stack t) v h fits room = h
apply d (Word t) v h fits room = extend d (bytes_of (address_in d.layout.reached) (Word t) v) 4 h (size-bytes (address_in d.layout.reached) (Word t) v) fits room
apply d (Byte n) v h fits room = extend d (bytes_of (address_in d.layout.reached) (Byte n) v) 1 h (size-bytes (address_in d.layout.reached) (Byte n) v) fits room
apply d (Zero n) v h fits room = extend d (bytes_of (address_in d.layout.reached) (Zero n) v) n h (size-bytes (address_in d.layout.reached) (Zero n) v) fits room

-- ---- the whole draft

abbrev pub IsWhole : Draft → Type 0
IsWhole d = IsSound d × IsSized d

pub blank-whole : IsWhole blank
blank-whole = (blank-sound, refl)

-- ---- lines

guard-ok : (b : Bool) (k : AsmErrorKind) (r : Result Draft AsmErrorKind) (e : Draft) → cond b (Err k) r ≡ Ok e → (b ≡ false) × (r ≡ Ok e)
guard-ok true k r e h = cc
guard-ok false k r e h = (refl, h)

complete : (d e : Draft) (s : Statement) (value : Option ℕ) → IsWhole d → is_out_of_place d.layout s ≡ false → nat_lt limit (size_with d (size_of s)) ≡ false → with_value d s value ≡ Ok e → IsWhole e
complete d e s None h fits room is = cc
complete d e s (Some v) h fits room is =
    let same : draft_with d s v ≡ e = cc in
    subst IsWhole same (apply d s v h.0 fits room, apply-size d s v h.1)

check : (labels : Labels) (number : ℕ) (d e : Draft) (label : Option (List ℕ)) (s : Statement) (value : Option ℕ) → IsWhole d → check_line labels number d label s value ≡ Ok e → IsWhole e
unfolding check_line
check labels number d e label s value h is =
    let far = guard-ok (is_too_far (address_in d.layout.reached) s value) kinds.Number _ e is in
    let twice = guard-ok (is_defined_before labels number label) kinds.Twice _ e far.1 in
    let place = guard-ok (is_out_of_place d.layout s) kinds.Place _ e twice.1 in
    let big = guard-ok (nat_lt limit (size_with d (size_of s))) kinds.TooBig (with_value d s value) e place.1 in
    complete d e s value h place.0 big.0 big.1

read : (labels : Labels) (number : ℕ) (d e : Draft) (label : Option (List ℕ)) (r : Read) → IsWhole d → (r >>= λ s. check_line labels number d label s.0 (worth_of labels s.1 (operand_of s.0))) ≡ Ok e → IsWhole e
read labels number d e label (Ok s) h is = check labels number d e label s.0 (worth_of labels s.1 (operand_of s.0)) h is
read labels number d e label (Err k) h is = cc

line : (labels : Labels) (number : ℕ) (d e : Draft) (text : List ℕ) → IsWhole d → with_line labels number d text ≡ Ok e → IsWhole e
unfolding with_line
line labels number d e text h is = read labels number d e (label_of text) (statement_in text) h is

then : (number : ℕ) (r : Result Draft AsmErrorKind) (f : Draft → Result Draft AsmError) (e : Draft) → ((x : Draft) → r ≡ Ok x → IsWhole x) → ((x : Draft) → IsWhole x → f x ≡ Ok e → IsWhole e) → in_line number r f ≡ Ok e → IsWhole e
then number (Ok x) f e sound others is = others x (sound x refl) is
then number (Err k) f e sound others is = cc

pub are-sound : (labels : Labels) (number : ℕ) (d e : Draft) (lines : List (List ℕ)) → IsWhole d → with_lines labels number d lines ≡ Ok e → IsWhole e
unfolding with_lines
are-sound labels number d e [] h is =
    let same : d ≡ e = cc in
    subst IsWhole same h
are-sound labels number d e (l ∷ ls) h is =
    then number (with_line labels number d l) (λ x. with_lines labels (number + 1) x ls) e (λ x at. line labels number d x l h at) (λ x sound at. are-sound labels (number + 1) x e ls sound at) is

pub is-small : (d : Draft) (i : model.Image) → IsWhole d → i ≡ draft_image d → length (image_bytes i) ≤ 16777216
is-small d i h is =
    let size : length (image_bytes (draft_image d)) ≡ d.size = file-size d h.1 in
    let room : d.size ≤ 16777216 = h.0.room in
    subst (λ (j : model.Image). length (image_bytes j) ≤ 16777216) (sym is) (omega (arith, size, room))
