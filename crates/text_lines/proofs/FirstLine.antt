-- The first line of a text, and what follows it.
use Rattle.std.proofs.Common.{◌≡◌, ℕ, zero, suc, ◌<◌, true, false, List, [], ◌∷◌, ◌++◌, length, get_or, take, drop, refl, ap, ◌∙◌, append_assoc, arith}
use Rattle.std.specs.Prelude.{◌==◌}
use Rattle.std.specs.List.{AllByRecursion}
use Rattle.std.proofs.lemmas.Bool.{ne_eqb}
use Rattle.std.proofs.lemmas.List.Concat.{flat_map-cons}
use Rattle.text_lines.specs.Lines.{add_first, lines_with_returns, HasNoFeed, text_of, last_line_of}

-- no line feed stands before this place
abbrev pub NoneBelow : List ℕ → ℕ → Type 0
NoneBelow text i = (k : ℕ) → k < i → (get_or text k 0 == 10) ≡ false

later : (b : ℕ) (bs : List ℕ) (i : ℕ) → NoneBelow (b ∷ bs) (suc i) → NoneBelow bs i
later b bs i h = λ k lt. h (suc k) (omega arith)

-- a line that its line feed ends, and the lines after it
pub first_line : (text : List ℕ) (i : ℕ) → NoneBelow text i → i < length text → (get_or text i 0 == 10) ≡ true → lines_with_returns text ≡ take i text ∷ lines_with_returns (drop (suc i) text)
unfolding lines_with_returns
first_line [] i h lt t = absurd (omega arith)
first_line (b ∷ bs) zero h lt t = rw t refl
first_line (b ∷ bs) (suc i) h lt t =
    let first : (b == 10) ≡ false = h 0 (omega arith) in
    rw first (ap (add_first b) (first_line bs i (later b bs i h) (omega arith) t))

-- a last line without a line feed
pub last_line : (text : List ℕ) → NoneBelow text (length text) → 0 < length text → lines_with_returns text ≡ text ∷ []
unfolding lines_with_returns
last_line [] h lt = absurd (omega arith)
last_line (b ∷ []) h lt = let first : (b == 10) ≡ false = h 0 (omega arith) in rw first refl
last_line (b ∷ c ∷ cs) h lt =
    let first : (b == 10) ≡ false = h 0 (omega arith) in
    rw first (ap (add_first b) (last_line (c ∷ cs) (later b (c ∷ cs) (length (c ∷ cs)) h) (omega arith)))

-- ---- lines that are written are read back

line_then : (line rest : List ℕ) → HasNoFeed line → lines_with_returns (line ++ 10 ∷ rest) ≡ line ∷ lines_with_returns rest
unfolding lines_with_returns
line_then [] rest h = refl
line_then (b ∷ bs) rest h = rw (ne_eqb b 10 h.0) (ap (add_first b) (line_then bs rest h.1))

last_part : (line : List ℕ) → HasNoFeed line → lines_with_returns line ≡ last_line_of line
unfolding lines_with_returns
last_part [] h = refl
last_part (b ∷ []) h = rw (ne_eqb b 10 h.0) refl
last_part (b ∷ c ∷ cs) h = rw (ne_eqb b 10 h.0) (ap (add_first b) (last_part (c ∷ cs) h.1))

pub read_back : (ls : List (List ℕ)) (last : List ℕ) → AllByRecursion HasNoFeed ls → HasNoFeed last → lines_with_returns (text_of ls last) ≡ ls ++ last_line_of last
read_back [] last h n = last_part last n
read_back (l ∷ ls) last h n =
    let regrouped : text_of (l ∷ ls) last ≡ l ++ 10 ∷ text_of ls last = rw (flat_map-cons (λ (x : List ℕ). x ++ 10 ∷ []) l ls) (simp append_assoc) in
    ap lines_with_returns regrouped ∙ (line_then l (text_of ls last) h.0 ∙ ap (λ (x : List (List ℕ)). l ∷ x) (read_back ls last h.1 n))
