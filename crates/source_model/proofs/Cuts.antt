-- Where a text is cut: the parts that a grammar names are those that are read from left to right.
use Rattle.std.proofs.Common.{◌≡◌, ℕ, Bool, true, false, cond, not, ◌&&◌, List, [], ◌∷◌, ◌++◌, length, refl, sym, ◌∙◌, ap, subst, arith}
use Rattle.std.specs.Prelude.{drop, take, ◌<◌, ◌==◌, ◌||◌}
use Rattle.std.specs.List.{list_all}
use borrow.Author.Tests.{eqb-true}
use Rattle.source_model.specs.declared.statement.Class.{Class}
use Rattle.source_model.specs.declared.statement.Class.TheVariants.{Solid, Blank, WordEnd}
use Rattle.source_model.specs.Bytes.{is_blank, is_empty, begins}
use Rattle.source_model.specs.Text.{contains, before, from}
use Rattle.source_model.specs.Grammar.{Starts, IsCut, HasWord}
use Rattle.source_model.proofs.Below.{both}

abbrev pub AreBlanks : List ℕ → Type 0
AreBlanks text = list_all is_blank text ≡ true

abbrev pub ends : (ℕ → Bool) → List ℕ → Bool
ends test [] = true
ends test (b ∷ bs) = test b

and-true : (t : Bool) → (t && true) ≡ t
and-true true = refl
and-true false = refl

pub ends-is : (test : ℕ → Bool) (text : List ℕ) → list_all test (take 1 text) ≡ ends test text
ends-is test [] = refl
ends-is test (b ∷ bs) = and-true (test b)

pub and-both : (x y : Bool) → x ≡ true → y ≡ true → (x && y) ≡ true
and-both true y e f = f
and-both false y e f = cc

not-true : (x : Bool) → not x ≡ true → x ≡ false
not-true true h = cc
not-true false h = refl

apart : (x : Bool) → x ≡ true → x ≡ false → ⊥
apart x e f = cc

parts-step : (t : Bool) (b : ℕ) (bs x y : List ℕ) → bs ≡ x ++ y → b ∷ bs ≡ cond t [] (b ∷ x) ++ cond t (b ∷ bs) y
parts-step true b bs x y e = refl
parts-step false b bs x y e = ap (λ (l : List ℕ). b ∷ l) e

pub parts : (class : Class) (text : List ℕ) → text ≡ before class text ++ from class text
unfolding before from
parts class [] = refl
parts class (b ∷ bs) = parts-step (contains class b) b bs (before class bs) (from class bs) (parts class bs)

inside-step : (test : ℕ → Bool) (b : ℕ) (x : List ℕ) (t : Bool) → test b ≡ t → list_all (λ c. not (test c)) x ≡ true → list_all (λ c. not (test c)) (cond t [] (b ∷ x)) ≡ true
inside-step test b x true e h = refl
inside-step test b x false e h = rw e h

pub inside : (class : Class) (text : List ℕ) → list_all (λ c. not (contains class c)) (before class text) ≡ true
unfolding before
inside class [] = refl
inside class (b ∷ bs) = inside-step (contains class) b (before class bs) (contains class b) refl (inside class bs)

end-step : (test : ℕ → Bool) (b : ℕ) (bs y : List ℕ) (t : Bool) → test b ≡ t → ends test y ≡ true → ends test (cond t (b ∷ bs) y) ≡ true
end-step test b bs y true e h = e
end-step test b bs y false e h = h

pub end : (class : Class) (text : List ℕ) → ends (contains class) (from class text) ≡ true
unfolding from
end class [] = refl
end class (b ∷ bs) = end-step (contains class) b bs (from class bs) (contains class b) refl (end class bs)

pub before-nil : (class : Class) (y : List ℕ) → ends (contains class) y ≡ true → before class y ≡ []
unfolding before
before-nil class [] h = refl
before-nil class (b ∷ bs) h = rw h refl

pub from-nil : (class : Class) (y : List ℕ) → ends (contains class) y ≡ true → from class y ≡ y
unfolding from
from-nil class [] h = refl
from-nil class (b ∷ bs) h = rw h refl

pub before-is : (class : Class) (x y : List ℕ) → list_all (λ c. not (contains class c)) x ≡ true → ends (contains class) y ≡ true → before class (x ++ y) ≡ x
unfolding before
before-is class [] y h e = before-nil class y e
before-is class (b ∷ bs) y h e =
    let h2 = both (not (contains class b)) (list_all (λ c. not (contains class c)) bs) h in
    let off : contains class b ≡ false = not-true (contains class b) h2.0 in
    rw off (ap (λ (l : List ℕ). b ∷ l) (before-is class bs y h2.1 e))

pub from-is : (class : Class) (x y : List ℕ) → list_all (λ c. not (contains class c)) x ≡ true → ends (contains class) y ≡ true → from class (x ++ y) ≡ y
unfolding from
from-is class [] y h e = from-nil class y e
from-is class (b ∷ bs) y h e =
    let h2 = both (not (contains class b)) (list_all (λ c. not (contains class c)) bs) h in
    let off : contains class b ≡ false = not-true (contains class b) h2.0 in
    rw off (from-is class bs y h2.1 e)

-- ---- blanks

pub skip : (gap y : List ℕ) → AreBlanks gap → from Solid (gap ++ y) ≡ from Solid y
unfolding from
skip [] y h = refl
skip (b ∷ bs) y h =
    let h2 = both (is_blank b) (list_all is_blank bs) h in
    let blank : is_blank b ≡ true = h2.0 in
    rw blank (skip bs y h2.1)

pub stays : (b : ℕ) (bs : List ℕ) → is_blank b ≡ false → from Solid (b ∷ bs) ≡ b ∷ bs
unfolding from
stays b bs h = rw h refl

gap-step : (b : ℕ) (x : List ℕ) (t : Bool) → is_blank b ≡ t → list_all is_blank x ≡ true → list_all is_blank (cond (not t) [] (b ∷ x)) ≡ true
gap-step b x true e h = rw e h
gap-step b x false e h = refl

pub gap-blank : (text : List ℕ) → AreBlanks (before Solid text)
unfolding before
gap-blank [] = refl
gap-blank (b ∷ bs) = gap-step b (before Solid bs) (is_blank b) refl (gap-blank bs)

pub start-solid : (text : List ℕ) (b : ℕ) (bs : List ℕ) → from Solid text ≡ b ∷ bs → is_blank b ≡ false
start-solid text b bs e =
    let solid : ends (λ c. not (is_blank c)) (b ∷ bs) ≡ true = subst (λ (l : List ℕ). ends (λ c. not (is_blank c)) l ≡ true) e (end Solid text) in
    not-true (is_blank b) solid

-- ---- words and marks

pub record Stops (class : Class) : Type 0 where
  pub blank : (b : ℕ) → contains class b ≡ false → is_blank b ≡ false

or-first : (x y : Bool) → (x || y) ≡ false → x ≡ false
or-first true y h = cc
or-first false y h = refl

pub blank-stops : Stops Blank
blank-stops = record { blank = λ b h. h }

pub word-end-stops : Stops WordEnd
word-end-stops = record { blank = λ b h. or-first (is_blank b) (b == 44) (or-first (is_blank b || (b == 44)) (b == 40) (or-first (is_blank b || (b == 44) || (b == 40)) (b == 41) h)) }

pub starts : (text : List ℕ) → Starts text (from Solid text)
starts text = (before Solid text, gap-blank text, parts Solid text)

pub cut-given : (class : Class) (text : List ℕ) → IsCut (contains class) text (before class text) (from class text)
cut-given class text = record { split = parts class text; inside = inside class text; end = ends-is (contains class) (from class text) ∙ end class text }

pub cut-found : (class : Class) (text front rest : List ℕ) → IsCut (contains class) text front rest → (before class text ≡ front) × (from class text ≡ rest)
cut-found class text front rest h =
    let ending : ends (contains class) rest ≡ true = sym (ends-is (contains class) rest) ∙ h.end in
    (ap (before class) h.split ∙ before-is class front rest h.inside ending, ap (from class) h.split ∙ from-is class front rest h.inside ending)

filled : (w : List ℕ) → is_empty w ≡ false → 0 < length w
filled [] h = cc
filled (b ∷ bs) h = omega arith

pub not-empty : (w : List ℕ) → 0 < length w → is_empty w ≡ false
not-empty [] h = absurd (omega (arith, h))
not-empty (b ∷ bs) h = refl

pub word-given : (class : Class) (text : List ℕ) → is_empty (before class (from Solid text)) ≡ false → HasWord (contains class) text (before class (from Solid text)) (from class (from Solid text))
word-given class text h = (from Solid text, starts text, cut-given class (from Solid text), filled (before class (from Solid text)) h)

word-start : (class : Class) (stops : Stops class) (gap w rest : List ℕ) → AreBlanks gap → is_empty w ≡ false → list_all (λ b. not (contains class b)) w ≡ true → from Solid (gap ++ (w ++ rest)) ≡ w ++ rest
word-start class stops gap [] rest g f h = cc
word-start class stops gap (b ∷ bs) rest g f h =
    let h2 = both (not (contains class b)) (list_all (λ c. not (contains class c)) bs) h in
    skip gap (b ∷ bs ++ rest) g ∙ stays b (bs ++ rest) (stops.blank b (not-true (contains class b) h2.0))

pub word-found : (class : Class) (stops : Stops class) (text w rest : List ℕ) → HasWord (contains class) text w rest → (before class (from Solid text) ≡ w) × (from class (from Solid text) ≡ rest)
word-found class stops text w rest h =
    let gap = h.1 in
    let cut = h.2 in
    let split : h.0 ≡ w ++ rest = cut.split in
    let whole : text ≡ gap.0 ++ (w ++ rest) = gap.2 ∙ ap (λ (l : List ℕ). gap.0 ++ l) split in
    let start : from Solid text ≡ w ++ rest = ap (from Solid) whole ∙ word-start class stops gap.0 w rest gap.1 (not-empty w h.3) cut.inside in
    let same : from Solid text ≡ h.0 = start ∙ sym split in
    let found = cut-found class h.0 w rest cut in
    (ap (before class) same ∙ found.0, ap (from class) same ∙ found.1)

pub mark-text : (mark : ℕ) (start : List ℕ) → begins mark start ≡ true → start ≡ mark ∷ drop 1 start
mark-text mark [] h = cc
mark-text mark (b ∷ bs) h = ap (λ (n : ℕ). n ∷ bs) (eqb-true b mark h)

pub mark-given : (mark : ℕ) (text : List ℕ) → begins mark (from Solid text) ≡ true → Starts text (mark ∷ drop 1 (from Solid text))
mark-given mark text h = (before Solid text, gap-blank text, parts Solid text ∙ ap (λ (l : List ℕ). before Solid text ++ l) (mark-text mark (from Solid text) h))

pub mark-found : (mark : ℕ) (text rest : List ℕ) → is_blank mark ≡ false → Starts text (mark ∷ rest) → from Solid text ≡ mark ∷ rest
mark-found mark text rest solid h = ap (from Solid) h.2 ∙ (skip h.0 (mark ∷ rest) h.1 ∙ stays mark rest solid)

pub start-blank : (text : List ℕ) → from Solid text ≡ [] → Starts text []
start-blank text e = (before Solid text, gap-blank text, parts Solid text ∙ ap (λ (l : List ℕ). before Solid text ++ l) e)

pub blank-start : (text : List ℕ) → Starts text [] → from Solid text ≡ []
unfolding from
blank-start text h = ap (from Solid) h.2 ∙ skip h.0 [] h.1
