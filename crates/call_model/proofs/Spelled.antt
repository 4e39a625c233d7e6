-- Bytes that spell a block are the block's own list of bytes.
use Rattle.std.proofs.Common.{◌≡◌, ℕ, zero, suc, ◌+◌, ◌*◌, ◌/◌, ◌%◌, ◌^◌, ◌<◌, List, [], ◌∷◌, length, get_or, refl, sym, ◌∙◌, ap, arith, length-append}
use Rattle.std.specs.List.{flat_map}
use Rattle.memory_model.specs.Memory.{number_from}
use Rattle.memory_model.specs.declared.Width.TheVariants.{Four}
use Rattle.call_model.specs.declared.Block.{Block}
use Rattle.call_model.specs.Block.{words, word_at, word_bytes, block_bytes, Spells}
use Rattle.call_model.proofs.Words.{same_bytes}

four_more : (k : ℕ) → 4 * suc k ≡ suc (suc (suc (suc (4 * k))))
four_more k = omega arith

long : (ws : List ℕ) → length (flat_map word_bytes ws) ≡ 4 * length ws
long [] = refl
long (w ∷ ws) = ap (λ (n : ℕ). suc (suc (suc (suc n)))) (long ws) ∙ sym (four_more (length ws))

bytes_below : (ws : List ℕ) (i : ℕ) → get_or (flat_map word_bytes ws) i 0 < 256
bytes_below [] i = omega arith
bytes_below (w ∷ ws) zero = omega arith
bytes_below (w ∷ ws) (suc zero) = omega arith
bytes_below (w ∷ ws) (suc (suc zero)) = omega arith
bytes_below (w ∷ ws) (suc (suc (suc zero))) = omega arith
bytes_below (w ∷ ws) (suc (suc (suc (suc i)))) = bytes_below ws i

digits : (w : ℕ) → w < 2 ^ 32 → w % 256 + 256 * (w / 256 % 256) + 65536 * (w / 65536 % 256) + 16777216 * (w / 16777216 % 256) ≡ w
digits w h = omega arith

next_word : (w : ℕ) (ws : List ℕ) (a m : ℕ) → a ≡ m + 4 → get_or (flat_map word_bytes (w ∷ ws)) a 0 ≡ get_or (flat_map word_bytes ws) m 0
next_word w ws a m e = let n : a ≡ suc (suc (suc (suc m))) = omega arith in ap (λ (j : ℕ). get_or (flat_map word_bytes (w ∷ ws)) j 0) n

word_of_bytes : (ws : List ℕ) → ((k : ℕ) → k < length ws → get_or ws k 0 < 2 ^ 32) → (k : ℕ) → k < length ws → number_from (λ a. get_or (flat_map word_bytes ws) a 0) Four (4 * k) ≡ get_or ws k 0
word_of_bytes [] below k h = absurd (omega arith)
word_of_bytes (w ∷ ws) below zero h = digits w (below 0 (omega arith))
word_of_bytes (w ∷ ws) below (suc k) h =
    let b0 = next_word w ws (4 * suc k) (4 * k) (omega arith) in
    let b1 = next_word w ws (4 * suc k + 1) (4 * k + 1) (omega arith) in
    let b2 = next_word w ws (4 * suc k + 2) (4 * k + 2) (omega arith) in
    let b3 = next_word w ws (4 * suc k + 3) (4 * k + 3) (omega arith) in
    let rest = word_of_bytes ws (λ j h. below (suc j) (omega arith)) k (omega arith) in
    omega arith

words_long : (b : Block) → length b.x ≡ 31 → length (words b) ≡ 34
words_long b e = omega (arith, length-append b.x (b.cause ∷ b.value ∷ []))

own_bytes_spell : (b : Block) → length b.x ≡ 31 → ((k : ℕ) → k < 34 → get_or (words b) k 0 < 2 ^ 32) → Spells (block_bytes b) b
unfolding word_at
own_bytes_spell b e below k h = word_of_bytes (words b) (λ j w. below j (omega (arith, words_long b e))) k (omega (arith, words_long b e))

word_below : (bytes : List ℕ) → ((i : ℕ) → get_or bytes i 0 < 256) → (k : ℕ) → word_at bytes k < 2 ^ 32
unfolding word_at
word_below bytes below k =
    let b0 = below (4 * k) in
    let b1 = below (4 * k + 1) in
    let b2 = below (4 * k + 2) in
    let b3 = below (4 * k + 3) in
    omega arith

-- bytes that spell a block are the block's own
pub bytes_of_block : (bytes : List ℕ) (b : Block) → length b.x ≡ 31 → length bytes ≡ 136 → ((i : ℕ) → get_or bytes i 0 < 256) → Spells bytes b → bytes ≡ block_bytes b
bytes_of_block bytes b e l below s =
    same_bytes bytes (block_bytes b) b l (long (words b) ∙ ap (λ (n : ℕ). 4 * n) (words_long b e)) below (bytes_below (words b)) s
    (own_bytes_spell b e (λ k h. let w = word_below bytes below k in let same : word_at bytes k ≡ get_or (words b) k 0 = s k h in omega arith))
