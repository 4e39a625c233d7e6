-- Registers read from a block in memory, and the registers of a block.
use Rattle.std.proofs.Common.{◌≡◌, ℕ, zero, suc, ◌+◌, ◌*◌, ◌<◌, ◌≤◌, List, [], ◌∷◌, length, get_or, drop, refl, ◌∙◌, ap, ap₂, arith}
use Rattle.std.proofs.lemmas.Grind.{same_number_lists}
use Rattle.memory_model.specs.Memory.{Memory}
use Rattle.instruction_model.specs.Outcome.{Registers}
use Rattle.space_model.specs.Block.{word, words_from, registers_at}

words_listed : (m : Memory) (a n : ℕ) (xs : List ℕ) → length xs ≡ n → ((k : ℕ) → k < n → get_or xs k 0 ≡ word m (a + 4 * k)) → xs ≡ words_from m a n
words_listed m a zero [] l h = refl
words_listed m a zero (x ∷ xs) l h = absurd (omega arith)
words_listed m a (suc n) [] l h = absurd (omega arith)
words_listed m a (suc n) (x ∷ xs) l h =
    let first : x ≡ word m a = let here : a + 4 * 0 ≡ a = omega arith in h 0 (omega arith) ∙ ap (word m) here in
    let rest = words_listed m (a + 4) n xs (omega arith) (λ k q. let next : a + 4 * suc k ≡ a + 4 + 4 * k = omega arith in h (suc k) (omega arith) ∙ ap (word m) next) in
    ap₂ (λ y ys. y ∷ ys) first rest

read_listed : (m : Memory) (a n : ℕ) (xs : List ℕ) → length xs ≡ suc n → get_or xs 0 0 ≡ 0 → ((k : ℕ) → 1 ≤ k → k < suc n → get_or xs k 0 ≡ word m (a + 4 * k)) → xs ≡ 0 ∷ words_from m (a + 4) n
read_listed m a n [] l z h = absurd (omega arith)
read_listed m a n (x ∷ xs) l z h =
    ap₂ (λ y ys. y ∷ ys) z (words_listed m (a + 4) n xs (omega arith) (λ k q. let next : a + 4 * suc k ≡ a + 4 + 4 * k = omega arith in h (suc k) (omega arith) (omega arith) ∙ ap (word m) next))

same_registers : (r s : Registers) → r.pc ≡ s.pc → r.x ≡ s.x → r ≡ s
same_registers r s pc x = λ i. record { pc = pc i; x = x i }

-- registers whose pc and words are those of the block are those that it holds
pub registers_read : (m : Memory) (a : ℕ) (r : Registers) → r.pc ≡ word m a → length r.x ≡ 32 → get_or r.x 0 0 ≡ 0 → ((k : ℕ) → 1 ≤ k → k < 32 → get_or r.x k 0 ≡ word m (a + 4 * k)) → r ≡ registers_at m a
registers_read m a r pc l z h = same_registers r (registers_at m a) pc (read_listed m a 31 r.x l z h)

-- all but the first
pub dropped_listed : (xs ys : List ℕ) → length xs ≡ 31 → length ys ≡ 32 → ((j : ℕ) → j < 31 → get_or xs j 0 ≡ get_or ys (j + 1) 0) → xs ≡ drop 1 ys
dropped_listed xs [] l k h = absurd (omega arith)
dropped_listed xs (y ∷ ys) l k h = same_number_lists xs ys (omega arith) (λ j q. let next : j + 1 ≡ suc j = omega arith in h j (omega arith) ∙ ap (λ i. get_or (y ∷ ys) i 0) next)
