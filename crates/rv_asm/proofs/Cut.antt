-- Cutting a text at the first byte of a class, and lines.
use Rattle.std.proofs.Common.{◌≡◌, ℕ, zero, suc, ◌<◌, ◌≤◌, Bool, true, false, List, [], ◌∷◌, length, get_or, take, drop, refl, sym, ap, subst, arith, length-drop}
use Rattle.std.specs.Prelude.{◌==◌}
use Rattle.source_model.specs.declared.statement.Class.{Class}
use Rattle.source_model.specs.declared.statement.Class.TheVariants.{LineFeed}
use Rattle.source_model.specs.Text.{contains, before, from}
use Rattle.source_model.specs.Bytes.{lines_of, add_first}

abbrev pub NoneBelow : Class → List ℕ → ℕ → Type 0
NoneBelow class text i = (k : ℕ) → k < i → contains class (get_or text k 0) ≡ false

later : (class : Class) (b : ℕ) (bs : List ℕ) (i : ℕ) → NoneBelow class (b ∷ bs) (suc i) → NoneBelow class bs i
later class b bs i h = λ k lt. h (suc k) (omega arith)

pub before-take : (class : Class) (text : List ℕ) (i : ℕ) → NoneBelow class text i → i < length text → contains class (get_or text i 0) ≡ true → before class text ≡ take i text
unfolding before
before-take class [] i h lt t = absurd (omega arith)
before-take class (b ∷ bs) zero h lt t = rw t refl
before-take class (b ∷ bs) (suc i) h lt t =
    let first : contains class b ≡ false = h 0 (omega arith) in
    rw first (ap (λ (l : List ℕ). b ∷ l) (before-take class bs i (later class b bs i h) (omega arith) t))

pub from-drop : (class : Class) (text : List ℕ) (i : ℕ) → NoneBelow class text i → i < length text → contains class (get_or text i 0) ≡ true → from class text ≡ drop i text
unfolding from
from-drop class [] i h lt t = absurd (omega arith)
from-drop class (b ∷ bs) zero h lt t = rw t refl
from-drop class (b ∷ bs) (suc i) h lt t =
    let first : contains class b ≡ false = h 0 (omega arith) in
    rw first (from-drop class bs i (later class b bs i h) (omega arith) t)

pub before-all : (class : Class) (text : List ℕ) → NoneBelow class text (length text) → before class text ≡ text
unfolding before
before-all class [] h = refl
before-all class (b ∷ bs) h =
    let first : contains class b ≡ false = h 0 (omega arith) in
    rw first (ap (λ (l : List ℕ). b ∷ l) (before-all class bs (λ k lt. h (suc k) (omega arith))))

pub from-all : (class : Class) (text : List ℕ) → NoneBelow class text (length text) → from class text ≡ []
unfolding from
from-all class [] h = refl
from-all class (b ∷ bs) h =
    let first : contains class b ≡ false = h 0 (omega arith) in
    rw first (from-all class bs (λ k lt. h (suc k) (omega arith)))

add-line : (b : ℕ) (bs : List ℕ) → (0 < length bs → lines_of bs ≡ before LineFeed bs ∷ lines_of (drop 1 (from LineFeed bs))) → add_first b (lines_of bs) ≡ (b ∷ before LineFeed bs) ∷ lines_of (drop 1 (from LineFeed bs))
unfolding lines_of before from
add-line b [] h = refl
add-line b (c ∷ cs) h = ap (add_first b) (h (omega arith))

first-line-step : (b : ℕ) (bs : List ℕ) (t : Bool) → (b == 10) ≡ t → (0 < length bs → lines_of bs ≡ before LineFeed bs ∷ lines_of (drop 1 (from LineFeed bs))) → lines_of (b ∷ bs) ≡ before LineFeed (b ∷ bs) ∷ lines_of (drop 1 (from LineFeed (b ∷ bs)))
unfolding lines_of before from
first-line-step b bs true e h = rw e refl
first-line-step b bs false e h = rw e (add-line b bs h)

pub first-line : (text : List ℕ) → 0 < length text → lines_of text ≡ before LineFeed text ∷ lines_of (drop 1 (from LineFeed text))
first-line [] h = absurd (omega arith)
first-line (b ∷ bs) h = first-line-step b bs (b == 10) refl (first-line bs)

from-shorter-step : (class : Class) (b : ℕ) (bs : List ℕ) (t : Bool) → contains class b ≡ t → length (from class bs) ≤ length bs → length (from class (b ∷ bs)) ≤ suc (length bs)
unfolding from
from-shorter-step class b bs true e h = rw e (omega arith)
from-shorter-step class b bs false e h = rw e (omega arith)

pub from-shorter : (class : Class) (text : List ℕ) → length (from class text) ≤ length text
unfolding from
from-shorter class [] = omega arith
from-shorter class (b ∷ bs) = from-shorter-step class b bs (contains class b) refl (from-shorter class bs)

pub first-line-only : (text line rest : List ℕ) → 0 < length text → line ≡ before LineFeed text → rest ≡ from LineFeed text → length rest ≡ 0 → lines_of text ≡ line ∷ lines_of rest
first-line-only text line [] lt l e z = rw l (subst (λ (r : List ℕ). lines_of text ≡ before LineFeed text ∷ lines_of (drop 1 r)) (sym e) (first-line text lt))
first-line-only text line (b ∷ bs) lt l e z = absurd (omega (arith, z))

pub first-line-more : (text line rest after : List ℕ) → 0 < length text → line ≡ before LineFeed text → rest ≡ from LineFeed text → after ≡ drop 1 rest → lines_of text ≡ line ∷ lines_of after
first-line-more text line rest after lt l e a = rw (l, a, e) (first-line text lt)

pub after-shorter : (class : Class) (text rest after : List ℕ) → 0 < length text → rest ≡ from class text → after ≡ drop 1 rest → length after < length text
after-shorter class text rest after lt e a =
    let short : length (from class text) ≤ length text = from-shorter class text in
    rw (a, e) (simp length-drop (omega arith))

pub take-length : (text : List ℕ) → take (length text) text ≡ text
take-length [] = refl
take-length (b ∷ bs) = ap (λ (l : List ℕ). b ∷ l) (take-length bs)

pub drop-length : (text : List ℕ) → drop (length text) text ≡ []
drop-length [] = refl
drop-length (b ∷ bs) = drop-length bs
