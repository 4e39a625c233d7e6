-- No two rows of the listing take one word, so the first row that takes a word is the only one.
use Rattle.std.proofs.Common.{◌≡◌, ℕ, ◌%◌, ◌↔◌, ◌⊎◌, inl, inr, Bool, true, false, cond, not, ◌&&◌, ◌||◌, ◌==◌, Option, Some, None, List, [], ◌∷◌, arith, IfSome, refl, ap, ◌∙◌}
use Rattle.std.proofs.lemmas.Bool.Decides.{nat_tests}
use Rattle.instruction_model.specs.Word.{opcode, funct3, funct7}
use Rattle.instruction_model.specs.declared.Instruction.{Instruction}
use Rattle.instruction_model.specs.Instruction.{Form, by_opcode, by_funct3, by_funct7, by_word, Row, takes, listing, first_of, instruction_of, SpelledAmong, Spells}

abbrev opcode_of : Form → ℕ
opcode_of (by_opcode o) = o
opcode_of (by_funct3 o f) = o
opcode_of (by_funct7 o f g) = o
opcode_of (by_word n) = n % 128

abbrev funct3_of : Form → Option ℕ
funct3_of (by_opcode o) = None
funct3_of (by_funct3 o f) = Some f
funct3_of (by_funct7 o f g) = Some f
funct3_of (by_word n) = None

abbrev funct7_of : Form → Option ℕ
funct7_of (by_opcode o) = None
funct7_of (by_funct3 o f) = None
funct7_of (by_funct7 o f g) = Some g
funct7_of (by_word n) = None

abbrev word_of : Form → Option ℕ
word_of (by_opcode o) = None
word_of (by_funct3 o f) = None
word_of (by_funct7 o f g) = None
word_of (by_word n) = Some n

abbrev both_and_other : Option ℕ → Option ℕ → Bool
both_and_other None q = false
both_and_other (Some a) None = false
both_and_other (Some a) (Some b) = not (a == b)

-- two forms that ask for different numbers in one field
abbrev apart : Form → Form → Bool
apart f g = not (opcode_of f == opcode_of g) || both_and_other (funct3_of f) (funct3_of g) || both_and_other (funct7_of f) (funct7_of g) || both_and_other (word_of f) (word_of g)

takes-opcode : (f : Form) (w : ℕ) → takes f w ≡ true → opcode w ≡ opcode_of f
takes-opcode (by_opcode o) w h = grind (arith, nat_tests)
takes-opcode (by_funct3 o f) w h = grind (arith, nat_tests)
takes-opcode (by_funct7 o f g) w h = grind (arith, nat_tests)
takes-opcode (by_word n) w h = grind (arith, nat_tests)

takes-funct3 : (f : Form) (w : ℕ) → takes f w ≡ true → IfSome (funct3_of f) (λ k. funct3 w ≡ k)
takes-funct3 (by_opcode o) w h = tt
takes-funct3 (by_funct3 o f) w h = grind (arith, nat_tests)
takes-funct3 (by_funct7 o f g) w h = grind (arith, nat_tests)
takes-funct3 (by_word n) w h = tt

takes-funct7 : (f : Form) (w : ℕ) → takes f w ≡ true → IfSome (funct7_of f) (λ k. funct7 w ≡ k)
takes-funct7 (by_opcode o) w h = tt
takes-funct7 (by_funct3 o f) w h = tt
takes-funct7 (by_funct7 o f g) w h = grind (arith, nat_tests)
takes-funct7 (by_word n) w h = tt

takes-word : (f : Form) (w : ℕ) → takes f w ≡ true → IfSome (word_of f) (λ k. w ≡ k)
takes-word (by_opcode o) w h = tt
takes-word (by_funct3 o f) w h = tt
takes-word (by_funct7 o f g) w h = tt
takes-word (by_word n) w h = grind (arith, nat_tests)

one_number : (p q : Option ℕ) (n : ℕ) → IfSome p (λ k. n ≡ k) → IfSome q (λ k. n ≡ k) → both_and_other p q ≡ false
one_number None q n h k = refl
one_number (Some a) None n h k = refl
one_number (Some a) (Some b) n h k = grind (arith, nat_tests)

none_apart : (a b c d : Bool) → a ≡ false → b ≡ false → c ≡ false → d ≡ false → (a || b || c || d) ≡ false
none_apart a b c d p q r s = grind arith

same_opcode : (o p n : ℕ) → n ≡ o → n ≡ p → not (o == p) ≡ false
same_opcode o p n h k = grind (arith, nat_tests)

not_both : (f g : Form) (w : ℕ) → apart f g ≡ true → takes f w ≡ true → takes g w ≡ true → ⊥
not_both f g w h p q =
    let e : apart f g ≡ false = none_apart _ _ _ _
    (same_opcode _ _ _ (takes-opcode f w p) (takes-opcode g w q))
    (one_number _ _ _ (takes-funct3 f w p) (takes-funct3 g w q))
    (one_number _ _ _ (takes-funct7 f w p) (takes-funct7 g w q))
    (one_number _ _ _ (takes-word f w p) (takes-word g w q)) in
    cc

abbrev apart_from : Form → List Row → Bool
apart_from f [] = true
apart_from f (r ∷ rows) = apart f r.form && apart_from f rows

abbrev all_apart : List Row → Bool
all_apart [] = true
all_apart (r ∷ rows) = apart_from r.form rows && all_apart rows

listing_apart : all_apart listing ≡ true
listing_apart = refl

both : (a b : Bool) → (a && b) ≡ true → (a ≡ true) × (b ≡ true)
both true b h = (refl, h)
both false b h = cc

taken_or_not : (b : Bool) → ((b ≡ true) → ⊥) → b ≡ false
taken_or_not true h = absurd (h refl)
taken_or_not false h = refl

not_before : (f : Form) (rows : List Row) (w : ℕ) (i : Instruction) → apart_from f rows ≡ true → SpelledAmong rows w i → takes f w ≡ false
not_before f [] w i h s = absurd s
not_before f (r ∷ rows) w i h s =
    let b = both _ _ h in
    elim s [ inl t ↦ taken_or_not (takes f w) (λ p. not_both f r.form w b.0 p t.0) | inr t ↦ not_before f rows w i b.1 t ]

only_row : (rows : List Row) (w : ℕ) (i : Instruction) → all_apart rows ≡ true → SpelledAmong rows w i → first_of rows w ≡ Some i
only_row [] w i h s = absurd s
only_row (r ∷ rows) w i h s =
    let b = both _ _ h in
    elim s [
      | inl t ↦ ap (λ c. cond c (Some (r.makes w)) (first_of rows w)) t.0 ∙ ap Some t.1
      | inr t ↦ ap (λ c. cond c (Some (r.makes w)) (first_of rows w)) (not_before r.form rows w i b.0 t) ∙ only_row rows w i b.1 t
    ]

at_head : (b : Bool) (x i : Instruction) (rest : Option Instruction) → cond b (Some x) rest ≡ Some i → ((b ≡ true) × (x ≡ i)) ⊎ (rest ≡ Some i)
at_head true x i rest h = inl (refl, cc)
at_head false x i rest h = inr h

some_row : (rows : List Row) (w : ℕ) (i : Instruction) → first_of rows w ≡ Some i → SpelledAmong rows w i
some_row [] w i h = cc
some_row (r ∷ rows) w i h =
    elim (at_head (takes r.form w) (r.makes w) i (first_of rows w) h) [ inl t ↦ inl t | inr t ↦ inr (some_row rows w i t) ]

-- a row makes an instruction of a word exactly where the word spells it
pub spells_is_spelled : (w : ℕ) (i : Instruction) → Spells w i ↔ (instruction_of w ≡ Some i)
unfolding Spells instruction_of
spells_is_spelled w i = (only_row listing w i listing_apart, some_row listing w i)
