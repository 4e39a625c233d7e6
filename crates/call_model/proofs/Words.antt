-- The words of a register block tell the block and the bytes that spell it.
use Rattle.std.proofs.Common.{◌≡◌, ℕ, zero, suc, ◌+◌, ◌*◌, ◌/◌, ◌%◌, ◌<◌, List, [], ◌∷◌, length, get_or, sym, ◌∙◌, ap, subst, inl, inr, arith}
use Rattle.std.specs.Prelude.{slice_index}
use Rattle.std.proofs.lemmas.Grind.{same_number_lists}
use Rattle.std.proofs.lemmas.Bool.{cases_eq}
use Rattle.std.proofs.lemmas.List.{get_or_append_left, get_or_at, get_or-append_right}
use Rattle.memory_model.specs.Memory.{number_from}
use Rattle.memory_model.specs.declared.Width.TheVariants.{Four}
use Rattle.call_model.specs.declared.Block.{Block}
use Rattle.call_model.specs.Block.{words, word_at, Spells}

register_word : (b : Block) → length b.x ≡ 31 → (k : ℕ) → k < 31 → slice_index (words b) (suc k) ≡ slice_index b.x k
register_word b e k h = get_or_append_left b.x (b.cause ∷ b.value ∷ []) 0 k (omega arith)

cause_word : (b : Block) → length b.x ≡ 31 → slice_index (words b) 32 ≡ b.cause
cause_word b e = get_or_at b.x b.cause (b.value ∷ []) 0 31 e

value_word : (b : Block) → length b.x ≡ 31 → slice_index (words b) 33 ≡ b.value
value_word b e = get_or-append_right b.x (b.cause ∷ b.value ∷ []) 31 32 0 e (omega arith)

words_are : (w : ℕ → ℕ) (b : Block) → length b.x ≡ 31 → w 0 ≡ b.pc → ((k : ℕ) → k < 31 → w (k + 1) ≡ slice_index b.x k) → w 32 ≡ b.cause → w 33 ≡ b.value → (k : ℕ) → k < 34 → w k ≡ slice_index (words b) k
words_are w b e pc x cause value zero h = pc
words_are w b e pc x cause value (suc k) h = elim (cases_eq k 31) [
  | inl c ↦ subst (λ (j : ℕ). w (suc j) ≡ slice_index (words b) (suc j)) (sym c) (cause ∙ sym (cause_word b e))
  | inr nc ↦ elim (cases_eq k 32) [
    | inl v ↦ subst (λ (j : ℕ). w (suc j) ≡ slice_index (words b) (suc j)) (sym v) (value ∙ sym (value_word b e))
    | inr nv ↦
        let within : k < 31 = omega (arith, nc, nv) in
        let next : suc k ≡ k + 1 = omega arith in
        ap w next ∙ x k within ∙ sym (register_word b e k within)
  ]
]

-- bytes whose words are those of a block spell it
pub spells : (bytes : List ℕ) (b : Block) → length b.x ≡ 31 → word_at bytes 0 ≡ b.pc → ((k : ℕ) → k < 31 → word_at bytes (k + 1) ≡ slice_index b.x k) → word_at bytes 32 ≡ b.cause → word_at bytes 33 ≡ b.value → Spells bytes b
spells bytes b e pc x cause value = words_are (word_at bytes) b e pc x cause value

-- bytes spell one block
pub same_block : (bytes : List ℕ) (a b : Block) → length a.x ≡ 31 → length b.x ≡ 31 → Spells bytes a → Spells bytes b → a ≡ b
same_block bytes a b la lb sa sb =
    let same : (k : ℕ) → k < 34 → slice_index (words a) k ≡ slice_index (words b) k = λ k h. sym (sa k h) ∙ sb k h in
    let pc : a.pc ≡ b.pc = same 0 (omega arith) in
    let x : a.x ≡ b.x = same_number_lists a.x b.x (la ∙ sym lb) (λ k h.
    let within : k < 31 = omega arith in
    sym (register_word a la k within) ∙ same (suc k) (omega arith) ∙ register_word b lb k within) in
    let cause : a.cause ≡ b.cause = sym (cause_word a la) ∙ same 32 (omega arith) ∙ cause_word b lb in
    let value : a.value ≡ b.value = sym (value_word a la) ∙ same 33 (omega arith) ∙ value_word b lb in
    λ i. record { pc = pc i; x = x i; cause = cause i; value = value i }

low_byte : (x y u v : ℕ) → x < 256 → u < 256 → x + 256 * y ≡ u + 256 * v → (x ≡ u) × (y ≡ v)
low_byte x y u v hx hu e = (omega arith, omega arith)

same_digits : (f g : ℕ → ℕ) (a : ℕ) → ((i : ℕ) → f i < 256) → ((i : ℕ) → g i < 256) → number_from f Four a ≡ number_from g Four a → (f a ≡ g a) × (f (a + 1) ≡ g (a + 1)) × (f (a + 2) ≡ g (a + 2)) × (f (a + 3) ≡ g (a + 3))
same_digits f g a hf hg e =
    let s0 = low_byte (f a) (f (a + 1) + 256 * (f (a + 2) + 256 * f (a + 3))) (g a) (g (a + 1) + 256 * (g (a + 2) + 256 * g (a + 3))) (hf a) (hg a) (omega arith) in
    let s1 = low_byte (f (a + 1)) (f (a + 2) + 256 * f (a + 3)) (g (a + 1)) (g (a + 2) + 256 * g (a + 3)) (hf (a + 1)) (hg (a + 1)) s0.1 in
    let s2 = low_byte (f (a + 2)) (f (a + 3)) (g (a + 2)) (g (a + 3)) (hf (a + 2)) (hg (a + 2)) s1.1 in
    (s0.0, s1.0, s2.0, s2.1)

same_byte : (f g : ℕ → ℕ) (a r : ℕ) → r < 4 → (f a ≡ g a) × (f (a + 1) ≡ g (a + 1)) × (f (a + 2) ≡ g (a + 2)) × (f (a + 3) ≡ g (a + 3)) → f (a + r) ≡ g (a + r)
same_byte f g a zero h d = let e : a + 0 ≡ a = omega arith in ap f e ∙ d.0 ∙ ap g (sym e)
same_byte f g a (suc zero) h d = d.1
same_byte f g a (suc (suc zero)) h d = d.2
same_byte f g a (suc (suc (suc zero))) h d = d.3
same_byte f g a (suc (suc (suc (suc r)))) h d = absurd (omega arith)

-- one list of bytes spells a block
pub same_bytes : (xs ys : List ℕ) (b : Block) → length xs ≡ 136 → length ys ≡ 136 → ((i : ℕ) → get_or xs i 0 < 256) → ((i : ℕ) → get_or ys i 0 < 256) → Spells xs b → Spells ys b → xs ≡ ys
unfolding word_at
same_bytes xs ys b lx ly bx by_ sx sy = same_number_lists xs ys (lx ∙ sym ly) (λ i h.
    let k = i / 4 in
    let within : k < 34 = omega arith in
    let place : i ≡ 4 * k + i % 4 = omega arith in
    let left : i % 4 < 4 = omega arith in
    let d = same_digits (λ (j : ℕ). get_or xs j 0) (λ (j : ℕ). get_or ys j 0) (4 * k) bx by_ (sx k within ∙ sym (sy k within)) in
    let e = same_byte (λ (j : ℕ). get_or xs j 0) (λ (j : ℕ). get_or ys j 0) (4 * k) (i % 4) left d in
    ap (λ (j : ℕ). get_or xs j 0) place ∙ e ∙ ap (λ (j : ℕ). get_or ys j 0) (sym place))
