-- Words between marks, as they are read one after the other, are the operands of a shape.
use Rattle.std.proofs.Common.{◌≡◌, ℕ, Bool, true, false, cond, List, [], ◌∷◌, Option, Some, None, Result, Ok, Err, refl, ◌∙◌, ap, subst}
use Rattle.std.specs.Prelude.{drop, option_map}
use Rattle.source_model.specs.declared.error.AsmErrorKind.{AsmErrorKind}
use Rattle.source_model.specs.declared.error.AsmErrorKind.TheVariants as kinds
use Rattle.source_model.specs.declared.statement.Class.TheVariants.{Solid, WordEnd}
use Rattle.source_model.specs.Bytes.{is_empty, begins}
use Rattle.source_model.specs.Text.{◌>>=◌, before, from, word_at, mark_at, one_word, two_apart, two_words, three_words, in_parentheses, word_and_address}
use Rattle.source_model.specs.Operand.{Operands}
use Rattle.source_model.proofs.Cuts.{start-solid, stays}
use Rattle.source_model.proofs.Words.{Next, Word, item, at_end, at_mark, at_word}

-- what is read has these words, or is no operand where the shape is another one
abbrev pub Agree : {X : Type 0} → (X → Operands) → Result X AsmErrorKind → Option Operands → Type 0
Agree f (Ok x) o = o ≡ Some (f x)
Agree f (Err kind) o = (kind ≡ kinds.Operand) × (o ≡ None)

abbrev With : Type 0
With = Operands → Operands

map-twice : (c d : With) (o : Option Operands) → option_map (λ x. c (d x)) o ≡ option_map c (option_map d o)
map-twice c d None = refl
map-twice c d (Some x) = refl

map-none : (o : Option Operands) → option_map (λ x. x) o ≡ o
map-none None = refl
map-none (Some x) = refl

word-step : {X : Type 0} (f : X → Operands) (c : With) (p : Word) (w s : List ℕ) (o : Option Operands) (g : List ℕ × List ℕ → Result X AsmErrorKind) (t : Bool) → Agree f (g (w, s)) (option_map (λ x. c (item p w ∷ x)) o)
    → Agree f (cond t (Err kinds.Operand) (Ok (w, s)) >>= g) (option_map c (cond t None (option_map (λ x. item p w ∷ x) o)))
word-step f c p w s o g true h = (refl, refl)
word-step f c p w s o g false h = subst (λ (q : Option Operands). Agree f (g (w, s)) q) (map-twice c (λ x. item p w ∷ x) o) h

word-agrees : {X : Type 0} (f : X → Operands) (c : With) (p : Word) (text : List ℕ) (next : Next) (g : List ℕ × List ℕ → Result X AsmErrorKind)
    → Agree f (g (before WordEnd (from Solid text), from Solid (from WordEnd (from Solid text)))) (option_map (λ x. c (item p (before WordEnd (from Solid text)) ∷ x)) (next (from WordEnd (from Solid text))))
    → Agree f (word_at text >>= g) (option_map c (at_word p text next))
unfolding word_at
word-agrees f c p text next g h = word-step f c p (before WordEnd (from Solid text)) (from Solid (from WordEnd (from Solid text))) (next (from WordEnd (from Solid text))) g (is_empty (before WordEnd (from Solid text))) h

mark-step : {X : Type 0} (f : X → Operands) (c : With) (rest : List ℕ) (o : Option Operands) (g : List ℕ → Result X AsmErrorKind) (t : Bool) → Agree f (g rest) (option_map c o)
    → Agree f (cond t (Ok rest) (Err kinds.Operand) >>= g) (option_map c (cond t o None))
mark-step f c rest o g true h = h
mark-step f c rest o g false h = (refl, refl)

mark-agrees : {X : Type 0} (f : X → Operands) (c : With) (mark : ℕ) (text : List ℕ) (next : Next) (g : List ℕ → Result X AsmErrorKind)
    → Agree f (g (drop 1 (from Solid text))) (option_map c (next (drop 1 (from Solid text))))
    → Agree f (mark_at mark (from Solid text) >>= g) (option_map c (at_mark mark text next))
unfolding mark_at
mark-agrees f c mark text next g h = mark-step f c (drop 1 (from Solid text)) (next (drop 1 (from Solid text))) g (begins mark (from Solid text)) h

end-step : {X : Type 0} (f : X → Operands) (c : With) (x : X) (t : Bool) → c [] ≡ f x → Agree f (cond t (Ok x) (Err kinds.Operand)) (option_map c (cond t (Some []) None))
end-step f c x true e = ap (λ (y : Operands). Some y) e
end-step f c x false e = (refl, refl)

end-agrees : {X : Type 0} (f : X → Operands) (c : With) (x : X) (text : List ℕ) → c [] ≡ f x → Agree f (cond (is_empty (from Solid text)) (Ok x) (Err kinds.Operand)) (option_map c (at_end text))
end-agrees f c x text e = end-step f c x (is_empty (from Solid text)) e

then-agrees : {X Y : Type 0} (f : X → Operands) (h : Y → Operands) (c : With) (k : X → Y) (r : Result X AsmErrorKind) (o : Option Operands) → ((x : X) → c (f x) ≡ h (k x)) → Agree f r o → Agree h (r >>= λ x. Ok (k x)) (option_map c o)
then-agrees f h c k (Ok x) o same e = ap (option_map c) e ∙ ap (λ (y : Operands). Some y) (same x)
then-agrees f h c k (Err kind) o same e = (e.0, ap (option_map c) e.1)

plainly : {X : Type 0} (f : X → Operands) (r : Result X AsmErrorKind) (o : Option Operands) → Agree f r (option_map (λ x. x) o) → Agree f r o
plainly f r o h = subst (λ (q : Option Operands). Agree f r q) (map-none o) h

-- ---- shapes

abbrev pub one : Word → List ℕ → Operands
one p w = item p w ∷ []

abbrev pub two : Word → Word → List ℕ × List ℕ → Operands
two p q w = item p w.0 ∷ item q w.1 ∷ []

abbrev pub three : Word → Word → Word → List ℕ × List ℕ × List ℕ → Operands
three p q r w = item p w.0 ∷ item q w.1 ∷ item r w.2 ∷ []

pub one-agrees : (p : Word) (text : List ℕ) → Agree (one p) (one_word text) (at_word p text at_end)
unfolding one_word
one-agrees p text = plainly (one p) (one_word text) (at_word p text at_end)
    (word-agrees (one p) (λ x. x) p text at_end (λ a. cond (is_empty a.1) (Ok a.0) (Err kinds.Operand))
    (end-agrees (one p) (λ x. item p (before WordEnd (from Solid text)) ∷ x) (before WordEnd (from Solid text)) (from WordEnd (from Solid text)) refl))

pub two-agrees : (p q : Word) (text : List ℕ) → Agree (two p q) (two_words text) (at_word p text (λ t. at_mark 44 t (λ u. at_word q u at_end)))
unfolding two_words
two-agrees p q text = plainly (two p q) (two_words text) (at_word p text (λ t. at_mark 44 t (λ u. at_word q u at_end)))
    (word-agrees (two p q) (λ x. x) p text (λ t. at_mark 44 t (λ u. at_word q u at_end)) (λ a. mark_at 44 a.1 >>= λ rest. one_word rest >>= λ b. Ok (a.0, b))
    (mark-agrees (two p q) (λ x. item p (before WordEnd (from Solid text)) ∷ x) 44 (from WordEnd (from Solid text)) (λ u. at_word q u at_end) (λ rest. one_word rest >>= λ b. Ok (before WordEnd (from Solid text), b))
    (then-agrees (one q) (two p q) (λ x. item p (before WordEnd (from Solid text)) ∷ x) (λ b. (before WordEnd (from Solid text), b)) (one_word (drop 1 (from Solid (from WordEnd (from Solid text))))) (at_word q (drop 1 (from Solid (from WordEnd (from Solid text)))) at_end) (λ b. refl)
    (one-agrees q (drop 1 (from Solid (from WordEnd (from Solid text))))))))

pub three-agrees : (p q r : Word) (text : List ℕ) → Agree (three p q r) (three_words text) (at_word p text (λ t. at_mark 44 t (λ u. at_word q u (λ v. at_mark 44 v (λ x. at_word r x at_end)))))
unfolding three_words
three-agrees p q r text =
    let others : Next = λ u. at_word q u (λ v. at_mark 44 v (λ x. at_word r x at_end)) in
    plainly (three p q r) (three_words text) (at_word p text (λ t. at_mark 44 t others))
    (word-agrees (three p q r) (λ x. x) p text (λ t. at_mark 44 t others) (λ a. mark_at 44 a.1 >>= λ rest. two_words rest >>= λ b. Ok (a.0, b.0, b.1))
    (mark-agrees (three p q r) (λ x. item p (before WordEnd (from Solid text)) ∷ x) 44 (from WordEnd (from Solid text)) others (λ rest. two_words rest >>= λ b. Ok (before WordEnd (from Solid text), b.0, b.1))
    (then-agrees (two q r) (three p q r) (λ x. item p (before WordEnd (from Solid text)) ∷ x) (λ b. (before WordEnd (from Solid text), b.0, b.1)) (two_words (drop 1 (from Solid (from WordEnd (from Solid text))))) (others (drop 1 (from Solid (from WordEnd (from Solid text))))) (λ b. refl)
    (two-agrees q r (drop 1 (from Solid (from WordEnd (from Solid text))))))))

again-step : (text start : List ℕ) → from Solid text ≡ start → from Solid start ≡ start
unfolding from
again-step text [] e = refl
again-step text (b ∷ bs) e = stays b bs (start-solid text b bs e)

again : (text : List ℕ) → from Solid (from Solid text) ≡ from Solid text
again text = again-step text (from Solid text) refl

apart-agrees-at : (p q : Word) (text start : List ℕ) → from Solid start ≡ from Solid text → Agree (one q) (one_word start) (at_word q text at_end)
unfolding one_word
apart-agrees-at p q text start e = subst (λ (l : List ℕ). Agree (one q) (one_word start) (cond (is_empty (before WordEnd l)) None (option_map (λ ws. item q (before WordEnd l) ∷ ws) (at_end (from WordEnd l))))) e (one-agrees q start)

pub apart-agrees : (p q : Word) (text : List ℕ) → Agree (two p q) (two_apart text) (at_word p text (λ t. at_word q t at_end))
unfolding two_apart
apart-agrees p q text = plainly (two p q) (two_apart text) (at_word p text (λ t. at_word q t at_end))
    (word-agrees (two p q) (λ x. x) p text (λ t. at_word q t at_end) (λ a. one_word a.1 >>= λ b. Ok (a.0, b))
    (then-agrees (one q) (two p q) (λ x. item p (before WordEnd (from Solid text)) ∷ x) (λ b. (before WordEnd (from Solid text), b)) (one_word (from Solid (from WordEnd (from Solid text)))) (at_word q (from WordEnd (from Solid text)) at_end) (λ b. refl)
    (apart-agrees-at p q (from WordEnd (from Solid text)) (from Solid (from WordEnd (from Solid text))) (again (from WordEnd (from Solid text))))))

parentheses-agree : (r : Word) (text : List ℕ) → Agree (one r) (in_parentheses (from Solid text)) (at_mark 40 text (λ u. at_word r u (λ v. at_mark 41 v at_end)))
unfolding in_parentheses
parentheses-agree r text =
    let inner = drop 1 (from Solid text) in
    plainly (one r) (in_parentheses (from Solid text)) (at_mark 40 text (λ u. at_word r u (λ v. at_mark 41 v at_end)))
    (mark-agrees (one r) (λ x. x) 40 text (λ u. at_word r u (λ v. at_mark 41 v at_end)) (λ rest. word_at rest >>= λ a. mark_at 41 a.1 >>= λ rest. cond (is_empty (from Solid rest)) (Ok a.0) (Err kinds.Operand))
    (word-agrees (one r) (λ x. x) r inner (λ v. at_mark 41 v at_end) (λ a. mark_at 41 a.1 >>= λ rest. cond (is_empty (from Solid rest)) (Ok a.0) (Err kinds.Operand))
    (mark-agrees (one r) (λ x. item r (before WordEnd (from Solid inner)) ∷ x) 41 (from WordEnd (from Solid inner)) at_end (λ rest. cond (is_empty (from Solid rest)) (Ok (before WordEnd (from Solid inner))) (Err kinds.Operand))
    (end-agrees (one r) (λ x. item r (before WordEnd (from Solid inner)) ∷ x) (before WordEnd (from Solid inner)) (drop 1 (from Solid (from WordEnd (from Solid inner)))) refl))))

pub address-agrees : (p q r : Word) (text : List ℕ) → Agree (three p q r) (word_and_address text) (at_word p text (λ t. at_mark 44 t (λ u. at_word q u (λ v. at_mark 40 v (λ x. at_word r x (λ y. at_mark 41 y at_end))))))
unfolding word_and_address
address-agrees p q r text =
    let last : Next = λ v. at_mark 40 v (λ x. at_word r x (λ y. at_mark 41 y at_end)) in
    let w = before WordEnd (from Solid text) in
    let rest = drop 1 (from Solid (from WordEnd (from Solid text))) in
    let v = before WordEnd (from Solid rest) in
    plainly (three p q r) (word_and_address text) (at_word p text (λ t. at_mark 44 t (λ u. at_word q u last)))
    (word-agrees (three p q r) (λ x. x) p text (λ t. at_mark 44 t (λ u. at_word q u last)) (λ a. mark_at 44 a.1 >>= λ rest. word_at rest >>= λ b. in_parentheses b.1 >>= λ c. Ok (a.0, b.0, c))
    (mark-agrees (three p q r) (λ x. item p w ∷ x) 44 (from WordEnd (from Solid text)) (λ u. at_word q u last) (λ rest. word_at rest >>= λ b. in_parentheses b.1 >>= λ c. Ok (w, b.0, c))
    (word-agrees (three p q r) (λ x. item p w ∷ x) q rest last (λ b. in_parentheses b.1 >>= λ c. Ok (w, b.0, c))
    (then-agrees (one r) (three p q r) (λ x. item p w ∷ item q v ∷ x) (λ c. (w, v, c)) (in_parentheses (from Solid (from WordEnd (from Solid rest)))) (last (from WordEnd (from Solid rest))) (λ c. refl)
    (parentheses-agree r (from WordEnd (from Solid rest)))))))
