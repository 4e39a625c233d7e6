-- Pieces of bytes: joined, shared, and read from a place on.
use Rattle.std.proofs.Common.{◌≡◌, ℕ, ◌+◌, ◌-◌, ◌<◌, ◌≤◌, List, [], ◌∷◌, ◌++◌, length, take, drop, get_or, refl, sym, ap, ◌∙◌, arith, append_assoc}
use Rattle.std.proofs.Math.Seq.{take-add}
use Rattle.std.proofs.lemmas.List.{append-nil, length-append, length-drop, length-take, length-take-le, take_all, take_at, take-take, take-append-drop, drop_at, drop-append-le, drop-drop, drop_more, drop_all}
use Rattle.std.specs.Arc.{arc_value}
use Rattle.std.specs.declared.sync.Arc.{Arc}
use Rattle.std.specs.declared.vec.Vec.{Vec}
use Rattle.std.specs.declared.alloc.Global.{Global}
use Rattle.dev_script.specs.Pieces.{bytes_in}

abbrev pub Piece : Type 0
Piece = Arc (Vec ℕ Global) Global

abbrev pub items_of : Piece → List ℕ
items_of p = (arc_value p).items

-- the first of some pieces
piece_first : (ps : List Piece) (i : ℕ) (d : Piece) → i < length ps → bytes_in (drop i ps) ≡ items_of (get_or ps i d) ++ bytes_in (drop (i + 1) ps)
piece_first ps i d low = ap bytes_in (drop_more ps i d low)

pub none_first : (ps : List Piece) (i : ℕ) → length ps ≤ i → bytes_in (drop i ps) ≡ []
none_first ps i high = ap bytes_in (drop_all i ps high)

bytes-append : (ps qs : List Piece) → bytes_in (ps ++ qs) ≡ bytes_in ps ++ bytes_in qs
bytes-append [] qs = refl
bytes-append (p ∷ ps) qs = ap (λ xs. items_of p ++ xs) (bytes-append ps qs) ∙ sym (append_assoc (items_of p) (bytes_in ps) (bytes_in qs))

-- one piece more is joined
pub one_joined : (ps : List Piece) (bs cs all : List ℕ) (i : ℕ) (d : Piece) → i < length ps → bs ++ bytes_in (drop i ps) ≡ all → cs ≡ bs ++ items_of (get_or ps i d) → cs ++ bytes_in (drop (i + 1) ps) ≡ all
one_joined ps bs cs all i d low before is =
    ap (λ xs. xs ++ bytes_in (drop (i + 1) ps)) is ∙ append_assoc bs (items_of (get_or ps i d)) (bytes_in (drop (i + 1) ps)) ∙ ap (λ xs. bs ++ xs) (sym (piece_first ps i d low)) ∙ before

pub all_joined : (ps : List Piece) (bs all : List ℕ) (i : ℕ) → length ps ≤ i → bs ++ bytes_in (drop i ps) ≡ all → bs ≡ all
all_joined ps bs all i high before = sym (append-nil bs) ∙ ap (λ xs. bs ++ xs) (sym (none_first ps i high)) ∙ before

-- one piece more is shared
pub one_shared : (ps qs rs : List Piece) (x d : Piece) (i : ℕ) → i < length ps → bytes_in qs ++ bytes_in (drop i ps) ≡ bytes_in ps → rs ≡ qs ++ x ∷ [] → arc_value x ≡ arc_value (get_or ps i d) → bytes_in rs ++ bytes_in (drop (i + 1) ps) ≡ bytes_in ps
one_shared ps qs rs x d i low before is same =
    one_joined ps (bytes_in qs) (bytes_in rs) (bytes_in ps) i d low before (ap bytes_in is ∙ bytes-append qs (x ∷ []) ∙ ap (λ xs. bytes_in qs ++ xs) (append-nil (items_of x) ∙ ap (λ v. v.items) same))

-- the pieces from one on and the tail are one piece
pub piece_added : (ps qs : List Piece) (x : Piece) (from : ℕ) (tail : List ℕ) → from ≤ length ps → items_of x ≡ bytes_in (drop from ps) ++ tail → qs ≡ take (from + 1) (take from ps ++ x ∷ drop from ps) → bytes_in qs ++ [] ≡ bytes_in ps ++ tail
piece_added ps qs x from tail low holds is =
    let front = take from ps in
    let rest = drop from ps in
    let long : length (front ++ x ∷ []) ≡ from + 1 = omega (arith, length-append front (x ∷ []), length-take-le from ps low) in
    let cut : qs ≡ front ++ x ∷ [] = is ∙ ap (take (from + 1)) (sym (append_assoc front (x ∷ []) rest)) ∙ take_at (front ++ x ∷ []) rest (from + 1) long in
    append-nil (bytes_in qs) ∙ ap bytes_in cut ∙ bytes-append front (x ∷ []) ∙ ap (λ xs. bytes_in front ++ xs) (append-nil (items_of x) ∙ holds)
    ∙ sym (append_assoc (bytes_in front) (bytes_in rest) tail) ∙ ap (λ xs. xs ++ tail) (sym (bytes-append front rest) ∙ ap bytes_in (take-append-drop from ps))

-- the bytes from a place on begin in this piece
pub run_in_piece : (ps : List Piece) (tail from : List ℕ) (i inner : ℕ) (d : Piece) → i < length ps → from ≡ drop inner (bytes_in (drop i ps) ++ tail) → inner ≤ length (items_of (get_or ps i d)) → drop inner (items_of (get_or ps i d)) ≡ take (length (drop inner (items_of (get_or ps i d)))) from
run_in_piece ps tail from i inner d low is inside =
    let own = items_of (get_or ps i d) in
    let rest = bytes_in (drop (i + 1) ps) in
    let split : from ≡ drop inner own ++ (rest ++ tail) =
    is ∙ ap (λ xs. drop inner (xs ++ tail)) (piece_first ps i d low) ∙ ap (drop inner) (append_assoc own rest tail) ∙ drop-append-le inner own (rest ++ tail) inside in
    sym (ap (take (length (drop inner own))) split ∙ take_at (drop inner own) (rest ++ tail) (length (drop inner own)) refl)

-- or behind it
pub run_past : (ps : List Piece) (tail from : List ℕ) (i inner : ℕ) (d : Piece) → i < length ps → from ≡ drop inner (bytes_in (drop i ps) ++ tail) → length (items_of (get_or ps i d)) ≤ inner → from ≡ drop (inner - length (items_of (get_or ps i d))) (bytes_in (drop (i + 1) ps) ++ tail)
run_past ps tail from i inner d low is past =
    let own = items_of (get_or ps i d) in
    let rest = bytes_in (drop (i + 1) ps) in
    let left : ℕ = inner - length own in
    let whole : inner ≡ length own + left = omega arith in
    is ∙ ap (λ xs. drop inner (xs ++ tail)) (piece_first ps i d low) ∙ ap (drop inner) (append_assoc own rest tail) ∙ ap (λ n. drop n (own ++ (rest ++ tail))) whole
    ∙ sym (drop-drop left (length own) (own ++ (rest ++ tail))) ∙ ap (drop left) (drop_at own (rest ++ tail) (length own) refl)

-- or in the tail
pub run_in_tail : (ps : List Piece) (tail from : List ℕ) (i inner : ℕ) → length ps ≤ i → from ≡ drop inner (bytes_in (drop i ps) ++ tail) → from ≡ drop inner tail
run_in_tail ps tail from i inner high is = is ∙ ap (λ xs. drop inner (xs ++ tail)) (none_first ps i high)

-- a run's first bytes are the first from its place on
run_start : (xs own : List ℕ) (at count : ℕ) → own ≡ take (length own) (drop at xs) → count ≤ length own → take count own ≡ take count (drop at xs)
run_start xs own at count is low = ap (take count) is ∙ take-take count (length own) (drop at xs) low

-- lists with one equal run more
pub runs_more : (xs ys own others : List ℕ) (at count : ℕ) → take at xs ≡ take at ys → own ≡ take (length own) (drop at xs) → others ≡ take (length others) (drop at ys) → count ≤ length own → count ≤ length others → take count own ≡ take count others → take (at + count) xs ≡ take (at + count) ys
runs_more xs ys own others at count before is are low low_too same =
    take-add at count xs ∙ ap (λ l. l ++ take count (drop at xs)) before ∙ ap (λ l. take at ys ++ l) (sym (run_start xs own at count is low) ∙ same ∙ run_start ys others at count are low_too) ∙ sym (take-add at count ys)

-- a run ends within its list
pub run_fits : (xs own : List ℕ) (at : ℕ) → own ≡ take (length own) (drop at xs) → at ≤ length xs → at + length own ≤ length xs
run_fits xs own at is low = let long : length own ≡ length (take (length own) (drop at xs)) = ap length is in omega (arith, long, length-take (length own) (drop at xs), length-drop at xs)

-- equal lists have equal runs
pub runs_same : (xs ys own others : List ℕ) (at count : ℕ) → xs ≡ ys → own ≡ take (length own) (drop at xs) → others ≡ take (length others) (drop at ys) → count ≤ length own → count ≤ length others → take count own ≡ take count others
runs_same xs ys own others at count same is are low low_too = run_start xs own at count is low ∙ ap (λ l. take count (drop at l)) same ∙ sym (run_start ys others at count are low_too)

-- all runs are equal
pub runs_all : (xs ys : List ℕ) (at : ℕ) → length xs ≤ at → length ys ≤ at → take at xs ≡ take at ys → xs ≡ ys
runs_all xs ys at end end_too same = sym (take_all at xs end) ∙ same ∙ take_all at ys end_too
