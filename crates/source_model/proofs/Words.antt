-- The operands that a grammar names are those that are read from left to right.
use Rattle.std.proofs.Common.{◌≡◌, ℕ, Bool, true, false, cond, List, [], ◌∷◌, Option, Some, None, refl, sym, ◌∙◌, ap}
use Rattle.std.specs.Prelude.{drop, option_map, ◌==◌}
use borrow.Author.Tests.{eq-eqb}
use Rattle.source_model.specs.declared.statement.Class.TheVariants.{Solid, WordEnd}
use Rattle.source_model.specs.Bytes.{is_blank, is_word_end, is_empty, begins}
use Rattle.source_model.specs.Text.{before, from}
use Rattle.source_model.specs.Meaning.{Value}
use Rattle.source_model.specs.Operand.{Part, mark, word, Operands}
use Rattle.source_model.specs.Grammar.{Starts, HasWord, AreOperands}
use Rattle.source_model.proofs.Cuts.{word-end-stops, word-given, word-found, mark-given, mark-found, start-blank, blank-start, not-empty}

abbrev pub Next : Type 0
Next = List ℕ → Option Operands

abbrev pub at_end : Next
at_end text = cond (is_empty (from Solid text)) (Some []) None

abbrev pub at_mark : ℕ → List ℕ → Next → Option Operands
at_mark m text next = cond (begins m (from Solid text)) (next (drop 1 (from Solid text))) None

-- a word of a part
abbrev pub Word : Type 0
Word = Bool × (List ℕ → Option Value)

abbrev pub item : Word → List ℕ → Bool × Option Value
item p w = (p.0, p.1 w)

abbrev pub at_word : Word → List ℕ → Next → Option Operands
at_word p text next = cond (is_empty (before WordEnd (from Solid text))) None (option_map (λ ws. item p (before WordEnd (from Solid text)) ∷ ws) (next (from WordEnd (from Solid text))))

abbrev pub words_of : List Part → Next
words_of [] text = at_end text
words_of (mark m ∷ ps) text = at_mark m text (words_of ps)
words_of (word r value ∷ ps) text = at_word (r, value) text (words_of ps)

-- ---- what is read is so

abbrev Follows : Next → (List ℕ → Operands → Type 0) → Type 0
Follows next P = (t : List ℕ) (ws : Operands) → next t ≡ Some ws → P t ws

some-is : (x y : Operands) → Some x ≡ Some y → x ≡ y
some-is x y e = cc

none-is : (y : Operands) (o : Option Operands) → o ≡ None → o ≡ Some y → ⊥
none-is y o e f = cc

nil-is : (t : List ℕ) → is_empty t ≡ true → t ≡ []
nil-is [] h = refl
nil-is (b ∷ bs) h = cc

end-step : (text : List ℕ) (ws : Operands) (t : Bool) → is_empty (from Solid text) ≡ t → cond t (Some []) None ≡ Some ws → Starts text [] × (ws ≡ [])
end-step text ws true e h = (start-blank text (nil-is (from Solid text) e), sym (some-is [] ws h))
end-step text ws false e h = cc

mark-step : (m : ℕ) (text : List ℕ) (next : Next) (P : List ℕ → Operands → Type 0) (ws : Operands) (t : Bool) → Follows next P → begins m (from Solid text) ≡ t → cond t (next (drop 1 (from Solid text))) None ≡ Some ws
    → (rest : List ℕ) × Starts text (m ∷ rest) × P rest ws
mark-step m text next P ws true f e h = (drop 1 (from Solid text), mark-given m text e, f (drop 1 (from Solid text)) ws h)
mark-step m text next P ws false f e h = cc

-- a word of this part, and what follows it
abbrev WordThen : Word → List ℕ → (List ℕ → Operands → Type 0) → Operands → Type 0
WordThen p text P ws = (w : List ℕ) × (rest : List ℕ) × (others : Operands) × HasWord is_word_end text w rest × P rest others × (ws ≡ item p w ∷ others)

pair-step : (p : Word) (text rest : List ℕ) (next : Next) (P : List ℕ → Operands → Type 0) (w : List ℕ) (ws : Operands) (o : Option Operands) → Follows next P → next rest ≡ o → HasWord is_word_end text w rest → option_map (λ x. item p w ∷ x) o ≡ Some ws → WordThen p text P ws
pair-step p text rest next P w ws None f e has h = cc
pair-step p text rest next P w ws (Some x) f e has h = (w, rest, x, has, f rest x e, sym (some-is (item p w ∷ x) ws h))

word-step : (p : Word) (text : List ℕ) (next : Next) (P : List ℕ → Operands → Type 0) (ws : Operands) (t : Bool) → Follows next P → is_empty (before WordEnd (from Solid text)) ≡ t
    → cond t None (option_map (λ x. item p (before WordEnd (from Solid text)) ∷ x) (next (from WordEnd (from Solid text)))) ≡ Some ws → WordThen p text P ws
word-step p text next P ws true f e h = cc
word-step p text next P ws false f e h = pair-step p text (from WordEnd (from Solid text)) next P (before WordEnd (from Solid text)) ws (next (from WordEnd (from Solid text))) f refl (word-given WordEnd text e) h

words-take : (ps : List Part) (text : List ℕ) (ws : Operands) → words_of ps text ≡ Some ws → AreOperands ps text ws
words-take [] text ws h = end-step text ws (is_empty (from Solid text)) refl h
words-take (mark m ∷ ps) text ws h = mark-step m text (words_of ps) (AreOperands ps) ws (begins m (from Solid text)) (words-take ps) refl h
words-take (word r value ∷ ps) text ws h = word-step (r, value) text (words_of ps) (AreOperands ps) ws (is_empty (before WordEnd (from Solid text))) (words-take ps) refl h

-- ---- what is so is read

-- no mark is a blank
abbrev pub AreSolid : List Part → Type 0
AreSolid [] = Unit {0}
AreSolid (mark m ∷ ps) = (is_blank m ≡ false) × AreSolid ps
AreSolid (word r value ∷ ps) = AreSolid ps

mark-back : (m : ℕ) (text rest : List ℕ) (next : Next) (ws : Operands) → is_blank m ≡ false → Starts text (m ∷ rest) → next rest ≡ Some ws → at_mark m text next ≡ Some ws
mark-back m text rest next ws solid h e =
    let start : from Solid text ≡ m ∷ rest = mark-found m text rest solid h in
    let is : (m == m) ≡ true = eq-eqb m m refl in
    rw (start, is) e

word-back : (p : Word) (text w rest : List ℕ) (next : Next) (ws : Operands) → HasWord is_word_end text w rest → next rest ≡ Some ws → at_word p text next ≡ Some (item p w ∷ ws)
word-back p text w rest next ws h e =
    let found = word-found WordEnd word-end-stops text w rest h in
    let front : before WordEnd (from Solid text) ≡ w = found.0 in
    let back : from WordEnd (from Solid text) ≡ rest = found.1 in
    let nonempty : is_empty w ≡ false = not-empty w h.3 in
    rw (front, back, nonempty, e) refl

same-words : (next : Option Operands) (x y : Operands) → next ≡ Some x → y ≡ x → next ≡ Some y
same-words next x y e f = e ∙ ap (λ (z : Operands). Some z) (sym f)

words-give : (ps : List Part) (text : List ℕ) (ws : Operands) → AreSolid ps → AreOperands ps text ws → words_of ps text ≡ Some ws
words-give [] text ws solid h =
    let start : from Solid text ≡ [] = blank-start text h.0 in
    rw (start, h.1) refl
words-give (mark m ∷ ps) text ws solid h = mark-back m text h.0 (words_of ps) ws solid.0 h.1 (words-give ps h.0 ws solid.1 h.2)
words-give (word r value ∷ ps) text ws solid h = same-words (at_word (r, value) text (words_of ps)) (item (r, value) h.0 ∷ h.2) ws (word-back (r, value) text h.0 h.1 (words_of ps) h.2 h.3 (words-give ps h.1 h.2 solid h.4)) h.5

-- ---- both

-- a text has these operands, or none
abbrev pub MayBeOperands : List Part → List ℕ → Option Operands → Type 0
MayBeOperands ps text (Some os) = AreOperands ps text os
MayBeOperands ps text None = (os : Operands) → AreOperands ps text os → ⊥

may-take : (ps : List Part) (text : List ℕ) (o : Option Operands) → AreSolid ps → words_of ps text ≡ o → MayBeOperands ps text o
may-take ps text None solid e = λ ws h. none-is ws (words_of ps text) e (words-give ps text ws solid h)
may-take ps text (Some ws) solid e = words-take ps text ws e

pub may-be : (ps : List Part) (text : List ℕ) → AreSolid ps → MayBeOperands ps text (words_of ps text)
may-be ps text solid = may-take ps text (words_of ps text) solid refl

only-one : (ps : List Part) (text : List ℕ) (o q : Option Operands) → AreSolid ps → words_of ps text ≡ q → MayBeOperands ps text o → o ≡ q
only-one ps text None None solid e h = refl
only-one ps text None (Some ws) solid e h = absurd (h ws (words-take ps text ws e))
only-one ps text (Some ws) q solid e h = sym (words-give ps text ws solid h) ∙ e

pub may-be-one : (ps : List Part) (text : List ℕ) (o : Option Operands) → AreSolid ps → MayBeOperands ps text o → o ≡ words_of ps text
may-be-one ps text o solid h = only-one ps text o (words_of ps text) solid refl h
