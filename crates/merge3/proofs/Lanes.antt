-- Conflicts and merged bytes, lane by lane.
use Rattle.std.proofs.Common.{◌≡◌, ℕ, zero, suc, ◌+◌, ◌-◌, ◌^◌, ◌%◌, ◌<◌, ◌≤◌, Bool, true, false, not, ◌&&◌, cond, eqb, List, [], ◌∷◌, map, length, get_or, bit_and, refl, sym, ap, eq-eqb, eqb-true, ◌∙◌, inl, inr, arith, w8}
use Rattle.std.proofs.lemmas.Bool.{cases_lt}
use Rattle.std.proofs.lemmas.List.{length-map}
use Rattle.std.proofs.lemmas.Simd.{length-chunk, length-zip2, length-sel_l, get_or-chunk, get_or-put_chunk_at, get_or-put_chunk_below, get_or-sel_l, get_or-zip2, mask_l-mod, tops_compared}
use lib.Lanes.{chunk, put_chunk, zip2, sel_l, mask_l, top}
use Rattle.merge3.specs.Bytes.{NoneInConflictFrom, IsMergeBelow, SameFrom}

abbrev pub other : ℕ → ℕ → Bool
other a b = not (eqb a b)

abbrev pub differs : ℕ → ℕ → ℕ
differs a b = cond (other a b) 255 0

-- the lanes at which both differ
abbrev pub both : List ℕ → List ℕ → List ℕ → List ℕ
both s c p = zip2 bit_and (zip2 differs c s) (zip2 differs p s)

-- the lanes in conflict
abbrev pub conflicts : Bool → List ℕ → List ℕ → List ℕ → List ℕ
conflicts true s c p = zip2 bit_and (both s c p) (zip2 differs c p)
conflicts false s c p = both s c p

-- a byte in conflict
abbrev in_conflict : Bool → ℕ → ℕ → ℕ → Bool
in_conflict agree s c p = other c s && other p s && not (agree && eqb c p)

one_lane : (b d : Bool) → ◌≡◌ {A = ℕ} (cond (top 7 (bit_and (cond b 255 0) (cond d 255 0))) 1 0) 0 → b && d && true ≡ false
one_lane true true e = absurd (omega arith)
one_lane true false e = refl
one_lane false d e = refl

agreeing_lane : (b d f : Bool) → ◌≡◌ {A = ℕ} (cond (top 7 (bit_and (bit_and (cond b 255 0) (cond d 255 0)) (cond (not f) 255 0))) 1 0) 0 → b && d && not f ≡ false
agreeing_lane true true true e = refl
agreeing_lane true true false e = absurd (omega arith)
agreeing_lane true false f e = refl
agreeing_lane false d f e = refl

none_in_each : (agree : Bool) (s c p : List ℕ) → length c ≡ length s → length p ≡ length s → mask_l (map (top 7) (conflicts agree s c p)) ≡ 0 → (i : ℕ) → i < length s
    → in_conflict agree (get_or s i 0) (get_or c i 0) (get_or p i 0) ≡ false
none_in_each agree [] c p lc lp e i below = absurd (omega arith)
none_in_each agree (x ∷ xs) [] p lc lp e i below = absurd (omega arith)
none_in_each agree (x ∷ xs) (y ∷ ys) [] lc lp e i below = absurd (omega arith)
none_in_each true (x ∷ xs) (y ∷ ys) (z ∷ zs) lc lp e zero below = agreeing_lane (other y x) (other z x) (eqb y z) (omega arith)
none_in_each false (x ∷ xs) (y ∷ ys) (z ∷ zs) lc lp e zero below = one_lane (other y x) (other z x) (omega arith)
none_in_each true (x ∷ xs) (y ∷ ys) (z ∷ zs) lc lp e (suc i) below = none_in_each true xs ys zs (omega arith) (omega arith) (omega arith) i (omega arith)
none_in_each false (x ∷ xs) (y ∷ ys) (z ∷ zs) lc lp e (suc i) below = none_in_each false xs ys zs (omega arith) (omega arith) (omega arith) i (omega arith)

long_both : (s c p : List ℕ) → length c ≡ length s → length p ≡ length s → length (both s c p) ≡ length s
long_both s c p lc lp =
    let first = length-zip2 differs c s lc ∙ lc in
    let second = length-zip2 differs p s lp ∙ lp in
    length-zip2 bit_and (zip2 differs c s) (zip2 differs p s) (first ∙ sym second) ∙ first

long_conflicts : (agree : Bool) (s c p : List ℕ) → length c ≡ length s → length p ≡ length s → length (conflicts agree s c p) ≡ length s
long_conflicts true s c p lc lp =
    let first = long_both s c p lc lp in
    let second = length-zip2 differs c p (lc ∙ sym lp) ∙ lc in
    length-zip2 bit_and (both s c p) (zip2 differs c p) (first ∙ sym second) ∙ first
long_conflicts false s c p lc lp = long_both s c p lc lp

-- where the mask of lanes in conflict is empty there is none
pub none_in_lanes : (agree : Bool) (s c p lanes : List ℕ) (at : ℕ) → at + 64 ≤ length s → at + 64 ≤ length c → at + 64 ≤ length p
    → lanes ≡ conflicts agree (chunk at 64 s) (chunk at 64 c) (chunk at 64 p) → mask_l (map (top 7) lanes) % 2 ^ 64 ≡ 0 → NoneInConflictFrom agree s c p at (at + 64)
none_in_lanes agree s c p lanes at room_s room_c room_p are empty k from to =
    let xs = chunk at 64 s in
    let ys = chunk at 64 c in
    let zs = chunk at 64 p in
    let i = k - at in
    let back : at + i ≡ k = omega arith in
    let small : i < 64 = omega arith in
    let ls = length-chunk at 64 s room_s in
    let ly = length-chunk at 64 c room_c in
    let lz = length-chunk at 64 p room_p in
    let tests = map (top 7) (conflicts agree xs ys zs) in
    let many : length tests ≡ 64 = length-map (conflicts agree xs ys zs) (top 7) ∙ long_conflicts agree xs ys zs (ly ∙ sym ls) (lz ∙ sym ls) ∙ ls in
    let clear = sym (mask_l-mod tests 64 (omega (arith, many))) ∙ ap (λ l. mask_l (map (top 7) l) % 2 ^ 64) (sym are) ∙ empty in
    let es = get_or-chunk at 64 s i 0 small ∙ ap (λ j. get_or s j 0) back in
    let ec = get_or-chunk at 64 c i 0 small ∙ ap (λ j. get_or c j 0) back in
    let ep = get_or-chunk at 64 p i 0 small ∙ ap (λ j. get_or p j 0) back in
    sym (λ j. in_conflict agree (es j) (ec j) (ep j)) ∙ none_in_each agree xs ys zs (ly ∙ sym ls) (lz ∙ sym ls) clear i (omega (arith, ls))

same_lane : (a b : ℕ) → ◌≡◌ {A = ℕ} (cond (top 7 (differs a b)) 1 0) 0 → a ≡ b
same_lane a b = go (eqb a b) refl
  where
    go : (t : Bool) → eqb a b ≡ t → ◌≡◌ {A = ℕ} (cond (top 7 (cond (not t) 255 0)) 1 0) 0 → a ≡ b
    go true is e = eqb-true a b is
    go false is e = absurd (omega arith)

same_each : (xs ys : List ℕ) → length ys ≡ length xs → mask_l (map (top 7) (zip2 differs xs ys)) ≡ 0 → (i : ℕ) → i < length xs → get_or xs i 0 ≡ get_or ys i 0
same_each [] ys long e i below = absurd (omega arith)
same_each (x ∷ xs) [] long e i below = absurd (omega arith)
same_each (x ∷ xs) (y ∷ ys) long e zero below = same_lane x y (omega arith)
same_each (x ∷ xs) (y ∷ ys) long e (suc i) below = same_each xs ys (omega arith) (omega arith) i (omega arith)

-- where the mask is empty the bytes are the same
pub same_in_lanes : (a b : List ℕ) (at : ℕ) → at + 64 ≤ length a → at + 64 ≤ length b
    → mask_l (map (top 7) (zip2 differs (chunk at 64 a) (chunk at 64 b))) % 2 ^ 64 ≡ 0 → SameFrom a b at (at + 64)
same_in_lanes a b at room_a room_b empty k from to =
    let xs = chunk at 64 a in
    let ys = chunk at 64 b in
    let i = k - at in
    let back : at + i ≡ k = omega arith in
    let small : i < 64 = omega arith in
    let lx = length-chunk at 64 a room_a in
    let ly = length-chunk at 64 b room_b in
    let lanes = map (top 7) (zip2 differs xs ys) in
    let many : length lanes ≡ 64 = length-map (zip2 differs xs ys) (top 7) ∙ length-zip2 differs xs ys (lx ∙ sym ly) ∙ lx in
    let clear = sym (mask_l-mod lanes 64 (omega (arith, many))) ∙ empty in
    let ea = get_or-chunk at 64 a i 0 small ∙ ap (λ j. get_or a j 0) back in
    let eb = get_or-chunk at 64 b i 0 small ∙ ap (λ j. get_or b j 0) back in
    sym ea ∙ same_each xs ys (ly ∙ sym lx) clear i (omega (arith, lx)) ∙ eb

itself : (x : ℕ) → ◌≡◌ {A = ℕ} (cond (top 7 (differs x x)) 1 0) 0
itself x = ap (λ t. cond (top 7 (cond (not t) 255 0)) 1 0) (eq-eqb x x refl)

none_differ : (xs : List ℕ) → mask_l (map (top 7) (zip2 differs xs xs)) ≡ 0
none_differ [] = refl
none_differ (x ∷ xs) = omega (arith, itself x, none_differ xs)

-- where the bytes are the same the mask is empty
pub empty_where_same : (a b : List ℕ) (at : ℕ) → a ≡ b → mask_l (map (top 7) (zip2 differs (chunk at 64 a) (chunk at 64 b))) % 2 ^ 64 ≡ 0
empty_where_same a b at same =
    ap (λ l. mask_l (map (top 7) (zip2 differs (chunk at 64 a) (chunk at 64 l))) % 2 ^ 64) (sym same)
    ∙ ap (λ n. n % 2 ^ 64) (none_differ (chunk at 64 a))

-- a lane of what is selected
selected : (s c p : List ℕ) (i : ℕ) → i < length s → length c ≡ length s → length p ≡ length s
    → get_or (sel_l (map (top 7) (zip2 differs c s)) c p) i 0 ≡ cond (other (get_or c i 0) (get_or s i 0)) (get_or c i 0) (get_or p i 0)
selected s c p i below lc lp =
    let long = length-zip2 other c s lc in
    ap (λ ms. get_or (sel_l ms c p) i 0) (tops_compared w8 other c s)
    ∙ get_or-sel_l (zip2 other c s) c p i 0 (omega arith) (omega arith) (omega arith)
    ∙ ap (λ t. cond t (get_or c i 0) (get_or p i 0)) (get_or-zip2 other c s i 0 0 false (omega arith) below)

-- the bytes of the lanes are merged too
pub merged_lanes : (s c p out : List ℕ) (at : ℕ) → at + 64 ≤ length s → at + 64 ≤ length c → at + 64 ≤ length p → at + 64 ≤ length out → IsMergeBelow s c p out at
    → IsMergeBelow s c p (put_chunk at out (sel_l (map (top 7) (zip2 differs (chunk at 64 c) (chunk at 64 s))) (chunk at 64 c) (chunk at 64 p))) (at + 64)
merged_lanes s c p out at room_s room_c room_p room before k to =
    let xs = chunk at 64 s in
    let ys = chunk at 64 c in
    let zs = chunk at 64 p in
    let tests = map (top 7) (zip2 differs ys xs) in
    let lanes = sel_l tests ys zs in
    let ls = length-chunk at 64 s room_s in
    let ly = length-chunk at 64 c room_c in
    let lz = length-chunk at 64 p room_p in
    let many : length tests ≡ 64 = length-map (zip2 differs ys xs) (top 7) ∙ length-zip2 differs ys xs (ly ∙ sym ls) ∙ ly in
    let full : length lanes ≡ 64 = length-sel_l tests ys zs (many ∙ sym ly) (many ∙ sym lz) ∙ many in
    elim (cases_lt k at) [
      | inl low ↦ get_or-put_chunk_below at out lanes k 0 low ∙ before k low
      | inr high ↦
          let i = k - at in
          let back : at + i ≡ k = omega arith in
          let small : i < 64 = omega arith in
          let es = get_or-chunk at 64 s i 0 small ∙ ap (λ j. get_or s j 0) back in
          let ec = get_or-chunk at 64 c i 0 small ∙ ap (λ j. get_or c j 0) back in
          let ep = get_or-chunk at 64 p i 0 small ∙ ap (λ j. get_or p j 0) back in
          ap (λ j. get_or (put_chunk at out lanes) j 0) (sym back)
          ∙ get_or-put_chunk_at at out lanes i 0 (omega (arith, full)) (omega (arith, full))
          ∙ selected xs ys zs i (omega (arith, ls)) (ly ∙ sym ls) (lz ∙ sym ls)
          ∙ (λ j. cond (other (ec j) (es j)) (ec j) (ep j))
    ]
