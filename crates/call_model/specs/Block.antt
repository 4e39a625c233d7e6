-- The register block: 34 words of four bytes each, the least byte first.
-- Source: OSDI 2010, "Efficient System-Enforced Deterministic Parallelism", the kernel interface: Put and Get hand over registers.
-- Our choice: the order of the words, and cause and value behind them.
use Rattle.std.specs.Prelude.{◌≡◌, ℕ, ◌*◌, ◌/◌, ◌%◌, ◌<◌, List, [], ◌∷◌, ◌++◌, slice_index}
use Rattle.std.specs.List.{flat_map}
use Rattle.memory_model.specs.Memory.{number_from}
use Rattle.memory_model.specs.declared.Width.TheVariants.{Four}
use Rattle.call_model.specs.declared.Block.{Block}

-- pc, x1 to x31, the number of the cause, the value
abbrev pub words : Block → List ℕ
words b = b.pc ∷ (b.x ++ b.cause ∷ b.value ∷ [])

-- word k of these bytes
unfoldable pub word_at : List ℕ → ℕ → ℕ
word_at bytes k = number_from (λ a. slice_index bytes a) Four (4 * k)

-- the bytes spell the block
abbrev pub Spells : List ℕ → Block → Type 0
Spells bytes b = (k : ℕ) → k < 34 → word_at bytes k ≡ slice_index (words b) k

-- the bytes of a word, the least first
abbrev pub word_bytes : ℕ → List ℕ
word_bytes w = w % 256 ∷ w / 256 % 256 ∷ w / 65536 % 256 ∷ w / 16777216 % 256 ∷ []

-- the one list of bytes that spells the block
abbrev pub block_bytes : Block → List ℕ
block_bytes b = flat_map word_bytes (words b)
