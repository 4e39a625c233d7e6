-- Zeros written where there are none but zeros change nothing.
use Rattle.std.proofs.Common.{◌≡◌, ℕ, suc, ◌+◌, ◌≤◌, ◌<◌, List, [], ◌∷◌, length, get_or, take, refl, sym, ap, ◌∙◌, inl, inr, arith}
use Rattle.std.proofs.lemmas.Bool.{cases_eq}
use Rattle.std.specs.Prelude.{replicate}
use Rattle.std.proofs.lemmas.List.{get_or-replicate, length-replicate, length-take-le}
use Rattle.memory_model.specs.Memory.{Memory, byte_at, with_byte, with_bytes, same_memory}
use Rattle.memory_model.proofs.Runs.{byte_at-with_byte, byte_at-with_byte_other, byte_at-with_bytes_out}
use Rattle.space_mem.proofs.PageEdits.{with_bytes-append}
use Rattle.image_file.specs.View.{padded}
use Rattle.image_file.proofs.Padding.{length-padded, padded_is}
use Rattle.det_core.specs.Empty.{IsEmptyFrom}

zero_byte : (m : Memory) (at v : ℕ) → byte_at m at ≡ 0 → v ≡ 0 → with_byte m at v ≡ m
zero_byte m at v none is = same_memory (with_byte m at v) m
    (λ a. elim (cases_eq a at) [
      | inl e ↦ ap (byte_at (with_byte m at v)) e ∙ byte_at-with_byte m at v ∙ is ∙ sym none ∙ ap (byte_at m) (sym e)
      | inr other ↦ byte_at-with_byte_other m at v a other
    ])
    (λ page. refl)

pub zeros_are_there : (m : Memory) (at : ℕ) (bytes : List ℕ) → IsEmptyFrom m at (length bytes) → ((k : ℕ) → k < length bytes → get_or bytes k 0 ≡ 0) → m ≡ with_bytes m at bytes
zeros_are_there m at [] empty zeros = refl
zeros_are_there m at (b ∷ bs) empty zeros =
    let first : byte_at m at ≡ 0 = ap (byte_at m) {x = at} {y = at + 0} (omega arith) ∙ empty 0 (omega arith) in
    let same = zero_byte m at b first (zeros 0 (omega arith)) in
    let rest : IsEmptyFrom m (at + 1) (length bs) = λ k lt. ap (byte_at m) {x = at + 1 + k} {y = at + suc k} (omega arith) ∙ empty (suc k) (omega arith) in
    rw same (zeros_are_there m (at + 1) bs rest (λ k lt. zeros (suc k) (omega arith)))

-- after the first bytes, the others' places are as they were
pub still_empty : (m now : Memory) (at done count from : ℕ) (bytes : List ℕ) → IsEmptyFrom m at (length bytes) → now ≡ with_bytes m at (take done bytes) → done + count ≤ length bytes → from ≡ at + done → IsEmptyFrom now from count
still_empty m now at done count from bytes empty written within is = λ k lt.
    let len : length (take done bytes) ≡ done = length-take-le done bytes (omega arith) in
    ap (λ x. byte_at x (from + k)) written
    ∙ byte_at-with_bytes_out m at (take done bytes) (from + k) (λ _. omega (arith, len, is))
    ∙ ap (byte_at m) {x = from + k} {y = at + (done + k)} (omega (arith, is))
    ∙ empty (done + k) (omega arith)

-- zeros behind bytes are there
pub padding_is_there : (m : Memory) (at : ℕ) (bytes : List ℕ) (n : ℕ) → IsEmptyFrom m at (length (padded bytes n)) → with_bytes m at bytes ≡ with_bytes m at (padded bytes n)
padding_is_there m at bytes n empty =
    let zeros = replicate n 0 in
    let count : length zeros ≡ n = length-replicate {A = ℕ} n 0 in
    let size = length-padded bytes n in
    let rest : IsEmptyFrom (with_bytes m at bytes) (at + length bytes) (length zeros) = λ k lt.
    byte_at-with_bytes_out m at bytes (at + length bytes + k) (λ _. omega arith)
    ∙ ap (byte_at m) {x = at + length bytes + k} {y = at + (length bytes + k)} (omega arith)
    ∙ empty (length bytes + k) (omega (arith, size, count)) in
    zeros_are_there (with_bytes m at bytes) (at + length bytes) zeros rest (λ k lt. get_or-replicate n k 0 0 (omega (arith, count)))
    ∙ with_bytes-append m at (at + length bytes) bytes zeros refl
    ∙ ap (with_bytes m at) (sym (padded_is bytes n))

-- and the bytes' own places are empty too
pub empty_before : (m : Memory) (at : ℕ) (bytes : List ℕ) (n : ℕ) → IsEmptyFrom m at (length (padded bytes n)) → IsEmptyFrom m at (length bytes)
empty_before m at bytes n empty = λ k lt. empty k (omega (arith, length-padded bytes n))
