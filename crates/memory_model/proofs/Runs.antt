-- The laws of bytes and permissions in a row.
use Rattle.std.specs.Prelude.{◌≡◌, ℕ, zero, suc, ◌+◌, ◌<◌, ◌≤◌, Bool, true, false, cond, List, [], ◌∷◌, ◌++◌, length, slice_index, Some, None}
use Rattle.std.proofs.Common.{refl, ◌∙◌, ap, arith, inl, inr}
use Rattle.std.proofs.lemmas.Bool.{cases_eq}
use Rattle.memory_model.specs.Memory.{Memory, byte_at, permission_at, with_byte, with_permission, with_bytes, with_permissions, bytes_from, first_without}
use Rattle.memory_model.proofs.Rows.{value_at-put_same, value_at-put_other}

-- one byte
pub byte_at-with_byte : (m : Memory) (a v : ℕ) → byte_at (with_byte m a v) a ≡ v
byte_at-with_byte m a v = value_at-put_same m.bytes a v

pub byte_at-with_byte_other : (m : Memory) (a v q : ℕ) → (q ≡ a → ⊥) → byte_at (with_byte m a v) q ≡ byte_at m q
byte_at-with_byte_other m a v q other = value_at-put_other m.bytes a v q other

-- bytes in a row
pub byte_at-with_bytes_out : (m : Memory) (a : ℕ) (bs : List ℕ) (q : ℕ) → (a ≤ q → a + length bs ≤ q) → byte_at (with_bytes m a bs) q ≡ byte_at m q
byte_at-with_bytes_out m a [] q out = refl
byte_at-with_bytes_out m a (b ∷ bs) q out =
    byte_at-with_bytes_out (with_byte m a b) (a + 1) bs q (λ le. omega (arith, out (omega arith)))
    ∙ byte_at-with_byte_other m a b q (λ same. omega (arith, out (omega arith)))

pub byte_at-with_bytes : (m : Memory) (a : ℕ) (bs : List ℕ) (k : ℕ) → k < length bs → byte_at (with_bytes m a bs) (a + k) ≡ slice_index bs k
byte_at-with_bytes m a [] k within = absurd (omega arith)
byte_at-with_bytes m a (b ∷ bs) zero within =
    byte_at-with_bytes_out (with_byte m a b) (a + 1) bs (a + 0) (λ le. absurd (omega arith))
    ∙ ap (byte_at (with_byte m a b)) {x = a + 0} {y = a} (omega arith)
    ∙ byte_at-with_byte m a b
byte_at-with_bytes m a (b ∷ bs) (suc k) within =
    ap (byte_at (with_bytes (with_byte m a b) (a + 1) bs)) {x = a + suc k} {y = a + 1 + k} (omega arith)
    ∙ byte_at-with_bytes (with_byte m a b) (a + 1) bs k (omega arith)

pub permission_at-with_bytes : (m : Memory) (a : ℕ) (bs : List ℕ) (page : ℕ) → permission_at (with_bytes m a bs) page ≡ permission_at m page
permission_at-with_bytes m a [] page = refl
permission_at-with_bytes m a (b ∷ bs) page = permission_at-with_bytes (with_byte m a b) (a + 1) bs page

-- permissions in a row
pub permission_at-with_permissions_out : (m : Memory) (page n v q : ℕ) → (page ≤ q → page + n ≤ q) → permission_at (with_permissions m page n v) q ≡ permission_at m q
permission_at-with_permissions_out m page zero v q out = refl
permission_at-with_permissions_out m page (suc n) v q out =
    permission_at-with_permissions_out (with_permission m page v) (page + 1) n v q (λ le. omega (arith, out (omega arith)))
    ∙ value_at-put_other m.permissions page v q (λ same. omega (arith, out (omega arith)))

pub permission_at-with_permissions : (m : Memory) (page n v q : ℕ) → page ≤ q → q < page + n → permission_at (with_permissions m page n v) q ≡ v
permission_at-with_permissions m page zero v q from to = absurd (omega arith)
permission_at-with_permissions m page (suc n) v q from to = elim (cases_eq q page) [
  | inl same ↦
      permission_at-with_permissions_out (with_permission m page v) (page + 1) n v q (λ le. absurd (omega arith))
      ∙ ap (permission_at (with_permission m page v)) same
      ∙ value_at-put_same m.permissions page v
  | inr other ↦ permission_at-with_permissions (with_permission m page v) (page + 1) n v q (omega arith) (omega arith)
]

pub byte_at-with_permissions : (m : Memory) (page n v a : ℕ) → byte_at (with_permissions m page n v) a ≡ byte_at m a
byte_at-with_permissions m page zero v a = refl
byte_at-with_permissions m page (suc n) v a = byte_at-with_permissions (with_permission m page v) (page + 1) n v a

-- bytes that are read
pub length-bytes_from : (m : Memory) (a n : ℕ) → length (bytes_from m a n) ≡ n
length-bytes_from m a zero = refl
length-bytes_from m a (suc n) = ap suc (length-bytes_from m (a + 1) n)

pub bytes_from-more : (m : Memory) (a n j : ℕ) → bytes_from m a (n + j) ≡ bytes_from m a n ++ bytes_from m (a + n) j
bytes_from-more m a zero j =
    let none : 0 + j ≡ j = omega arith in
    let here : a ≡ a + 0 = omega arith in
    ap (bytes_from m a) none ∙ ap (λ q. bytes_from m q j) here
bytes_from-more m a (suc n) j =
    let more : suc n + j ≡ suc (n + j) = omega arith in
    let on : a + 1 + n ≡ a + suc n = omega arith in
    ap (bytes_from m a) more
    ∙ ap (λ bs. byte_at m a ∷ bs) (bytes_from-more m (a + 1) n j ∙ ap (λ q. bytes_from m (a + 1) n ++ bytes_from m q j) on)

-- rights in a row
pub first_without-none : (right : ℕ → Bool) (a n : ℕ) → ((k : ℕ) → k < n → right (a + k) ≡ true) → first_without right a n ≡ None
first_without-none right a zero all = refl
first_without-none right a (suc n) all =
    let here : right a ≡ true = ap right {x = a} {y = a + 0} (omega arith) ∙ all 0 (omega arith) in
    ap (λ b. cond b (first_without right (a + 1) n) (Some a)) here
    ∙ first_without-none right (a + 1) n (λ k below. ap right {x = a + 1 + k} {y = a + suc k} (omega arith) ∙ all (suc k) (omega arith))

pub first_without-some : (right : ℕ → Bool) (a n k : ℕ) → k < n → ((j : ℕ) → j < k → right (a + j) ≡ true) → right (a + k) ≡ false → first_without right a n ≡ Some (a + k)
first_without-some right a zero k within before lacks = absurd (omega arith)
first_without-some right a (suc n) zero within before lacks =
    let same : a ≡ a + 0 = omega arith in
    ap (λ b. cond b (first_without right (a + 1) n) (Some a)) (ap right same ∙ lacks) ∙ ap (λ q. Some q) same
first_without-some right a (suc n) (suc k) within before lacks =
    let here : right a ≡ true = ap right {x = a} {y = a + 0} (omega arith) ∙ before 0 (omega arith) in
    let on : a + 1 + k ≡ a + suc k = omega arith in
    ap (λ b. cond b (first_without right (a + 1) n) (Some a)) here
    ∙ first_without-some right (a + 1) n k (omega arith) (λ j below. ap right {x = a + 1 + j} {y = a + suc j} (omega arith) ∙ before (suc j) (omega arith)) (ap right on ∙ lacks)
    ∙ ap (λ q. Some q) on
