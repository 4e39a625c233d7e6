-- The bytes of pages: written, and all of them 0.
use Rattle.std.proofs.Common.{◌≡◌, ℕ, ◌+◌, ◌-◌, ◌*◌, ◌≤◌, ◌<◌, Bool, true, false, List, length, refl, sym, ap, ◌∙◌, arith, inl, inr}
use Rattle.std.specs.Prelude.{slice_index, IsTrue}
use Rattle.std.proofs.lemmas.Bool.{cases_lt}
use Rattle.memory_model.specs.Sizes.{page_size}
use Rattle.memory_model.specs.Memory.{Memory, byte_at, with_bytes, same_memory}
use Rattle.memory_model.specs.Ranges.{with_page}
use Rattle.memory_model.proofs.Rows.{value_at-row_before, value_at-row_after, value_at-row_key}
use Rattle.memory_model.proofs.Runs.{byte_at-with_bytes, byte_at-with_bytes_out, permission_at-with_bytes}
use Rattle.parcel_model.specs.Parcel.{is_zero}
use Rattle.parcel_model.proofs.Packed.{all_zero, zeros_in}

inside : (m : Memory) (start : ℕ) (bytes : List ℕ) (a : ℕ) → start ≤ a → a < start + length bytes → byte_at (with_bytes m start bytes) a ≡ slice_index bytes (a - start)
inside m start bytes a le lt =
    let e : a ≡ start + (a - start) = omega arith in
    ap (byte_at (with_bytes m start bytes)) e ∙ byte_at-with_bytes m start bytes (a - start) (omega arith)

-- 4,096 bytes from a page's first address on are the page's
pub written : (m : Memory) (page : ℕ) (bytes : List ℕ) → length bytes ≡ page_size → with_bytes m (page_size * page) bytes ≡ with_page m page bytes
written m page bytes len =
    same_memory (with_bytes m (page_size * page) bytes) (with_page m page bytes)
    (λ a. elim (cases_lt a (page_size * page)) [
      | inl low ↦ byte_at-with_bytes_out m (page_size * page) bytes a (λ le. absurd (omega arith)) ∙ sym (value_at-row_before m.bytes (page_size * page) (slice_index bytes) page_size a low)
      | inr high ↦ elim (cases_lt a (page_size * page + page_size)) [
        | inl lt ↦ inside m (page_size * page) bytes a high (omega (arith, len)) ∙ sym (value_at-row_key m.bytes (page_size * page) (slice_index bytes) page_size a high lt)
        | inr after ↦ byte_at-with_bytes_out m (page_size * page) bytes a (λ le. omega (arith, len)) ∙ sym (value_at-row_after m.bytes (page_size * page) (slice_index bytes) page_size a after)
      ]
    ])
    (λ q. permission_at-with_bytes m (page_size * page) bytes q)

-- a page's test
by_test : (b z : Bool) (bytes : List ℕ) → is_zero bytes ≡ z → (IsTrue b → (k : ℕ) → slice_index bytes k ≡ 0) × (((k : ℕ) → slice_index bytes k ≡ 0) → IsTrue b) → b ≡ z
by_test true true bytes e h = refl
by_test true false bytes e h = let t = zeros_in bytes (λ k lt. h.0 refl k) in absurd cc
by_test false true bytes e h = h.1 (λ k. sym (all_zero bytes e k))
by_test false false bytes e h = refl

pub zero_page : (b : Bool) (bytes : List ℕ) → (IsTrue b → (k : ℕ) → slice_index bytes k ≡ 0) × (((k : ℕ) → slice_index bytes k ≡ 0) → IsTrue b) → b ≡ is_zero bytes
zero_page b bytes h = by_test b (is_zero bytes) bytes refl h
