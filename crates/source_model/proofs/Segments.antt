-- The layout that is read along with the lines is that of the segments that they fill.
use Rattle.std.proofs.Common.{◌≡◌, ℕ, suc, ◌+◌, ◌^◌, Bool, true, false, cond, List, [], ◌∷◌, ◌++◌, length, Option, Some, None, refl, sym, ◌∙◌, ap, arith, length-append}
use Rattle.std.specs.Prelude.{◌==◌, ◌&&◌, ◌||◌, nat_lt}
use Rattle.std.proofs.lemmas.List.{append-nil}
use borrow.Author.Tests.{eqb-true, lt-ltb}
use Rattle.image_model.specs.declared.format.Format.{Format}
use Rattle.image_model.specs.Image.{Segment}
use Rattle.source_model.specs.declared.statement.Layout.{Layout}
use Rattle.source_model.specs.Layout as layouts
use Rattle.source_model.specs.Meaning.{Draft, end_of, address_after, with_content, with_bytes}

abbrev pub top_of : List Segment → Option ℕ
top_of [] = None
top_of (s ∷ ss) = Some (s.address + length s.content)

abbrev pub layout_of : Format → List Segment → Layout
layout_of f ss = record { format = f; reached = top_of ss; used = end_of (with_content ss); begun = length ss }

abbrev pub layout_in : Draft → Layout
layout_in d = layout_of d.format d.segments

address-in : (ss : List Segment) → layouts.address_in (top_of ss) ≡ layouts.address_in (Some (end_of ss))
address-in [] = refl
address-in (s ∷ ss) = refl

pub address-same : (d : Draft) → layouts.address_in (layout_in d).reached ≡ address_after d
address-same d = address-in d.segments

-- ---- places

and-true : (t : Bool) → t ≡ (t && true)
and-true true = refl
and-true false = refl

or-by : (a t u : Bool) → t ≡ false → (a && u) ≡ (a && (t || u))
or-by a true u e = cc
or-by a false u e = refl

none-empty : (s : Segment) (ss : List Segment) (t : Bool) → (length (s ∷ ss) == 0) ≡ t → t ≡ false
none-empty s ss true e = absurd (omega (arith, eqb-true (length (s ∷ ss)) 0 e))
none-empty s ss false e = refl

-- the place of bytes behind these segments
abbrev pub has_no_room : List Segment → List ℕ → Bool
has_no_room ss b = nat_lt 0 (length b) && (length ss == 0 || nat_lt (2 ^ 32) (end_of ss + length b))

pub room-same : (ss : List Segment) (b : List ℕ) → layouts.bytes_out_of_place (top_of ss) (length b) ≡ has_no_room ss b
room-same [] b = and-true (nat_lt 0 (length b))
room-same (s ∷ ss) b = or-by (nat_lt 0 (length b)) (length (s ∷ ss) == 0) (nat_lt (2 ^ 32) (s.address + length s.content + length b)) (none-empty s ss (length (s ∷ ss) == 0) refl)

-- ---- the layout after bytes

abbrev layout_at : Format → Option ℕ → ℕ → ℕ → Layout
layout_at f r u b = record { format = f; reached = r; used = u; begun = b }

same-layout : (f : Format) (r q : Option ℕ) (u v b : ℕ) → r ≡ q → u ≡ v → layout_at f r u b ≡ layout_at f q v b
same-layout f r q u v b e g = rw (e, g) refl

some-left : (xs : List ℕ) (b : ℕ) (bs : List ℕ) → nat_lt 0 (length (xs ++ b ∷ bs)) ≡ true
some-left xs b bs = lt-ltb 0 (length (xs ++ b ∷ bs)) (omega (arith, length-append xs (b ∷ bs)))

used-step : (s : Segment) (ss : List Segment) (t : Bool) → t ≡ true → end_of (cond t (s ∷ ss) ss) ≡ s.address + length s.content
used-step s ss true e = refl
used-step s ss false e = cc

more-step : (f : Format) (s : Segment) (ss : List Segment) (b : ℕ) (bs : List ℕ) (t : Bool) → (length (b ∷ bs) == 0) ≡ t
    → cond t (layout_of f (s ∷ ss)) (layout_at f (Some (s.address + length s.content + length (b ∷ bs))) (s.address + length s.content + length (b ∷ bs)) (length (s ∷ ss))) ≡ layout_of f (with_bytes (s ∷ ss) (b ∷ bs))
more-step f s ss b bs true e = absurd (omega (arith, eqb-true (length (b ∷ bs)) 0 e))
more-step f s ss b bs false e =
    let longer : Segment = record s { content = s.content ++ b ∷ bs } in
    let end : s.address + length s.content + length (b ∷ bs) ≡ s.address + length (s.content ++ b ∷ bs) = omega (arith, length-append s.content (b ∷ bs)) in
    let used : end_of (with_content (longer ∷ ss)) ≡ s.address + length (s.content ++ b ∷ bs) = used-step longer (with_content ss) (nat_lt 0 (length (s.content ++ b ∷ bs))) (some-left s.content b bs) in
    same-layout f (Some (s.address + length s.content + length (b ∷ bs))) (Some (s.address + length (s.content ++ b ∷ bs))) (s.address + length s.content + length (b ∷ bs)) (end_of (with_content (longer ∷ ss))) (length (s ∷ ss)) (ap (λ (n : ℕ). Some n) end) (end ∙ sym used)

more-same : (f : Format) (ss : List Segment) (b : List ℕ) → layouts.further (top_of ss) (layout_of f ss) (length b) ≡ layout_of f (with_bytes ss b)
more-same f [] b = refl
more-same f (s ∷ ss) [] = rw append-nil refl
more-same f (s ∷ ss) (b ∷ bs) = more-step f s ss b bs (length (b ∷ bs) == 0) refl

pub more-layout : (f : Format) (ss : List Segment) (b : List ℕ) (n : ℕ) → length b ≡ n → layouts.further (top_of ss) (layout_of f ss) n ≡ layout_of f (with_bytes ss b)
more-layout f ss b n e = rw (← e) (more-same f ss b)

pub begun-layout : (f : Format) (ss : List Segment) (a p : ℕ) → layout_at f (Some a) (end_of (with_content ss)) (length ss + 1) ≡ layout_of f (record { address = a; permission = p; content = [] } ∷ ss)
begun-layout f ss a p =
    let count : length ss + 1 ≡ suc (length ss) = omega arith in
    let top : a ≡ a + 0 = omega arith in
    rw (← count, ← top) refl
