-- What stands at a key after numbers in a row were put there.
use Rattle.std.specs.Prelude.{◌≡◌, ℕ, zero, suc, ◌+◌, ◌-◌, ◌<◌, ◌≤◌, cond}
use Rattle.std.proofs.Common.{refl, sym, ◌∙◌, ap, arith, inl, inr, eq-eqb, ne_eqb}
use Rattle.std.proofs.lemmas.Bool.{cases_eq}
use Rattle.memory_model.specs.Sparse.{Sparse, put, value_at, value_at-put}
use Rattle.memory_model.specs.Ranges.{with_row}

pub value_at-put_same : (t : Sparse) (k v : ℕ) → value_at (put t k v) k ≡ v
value_at-put_same t k v = value_at-put t k v k ∙ ap (λ b. cond b v (value_at t k)) (eq-eqb k k refl)

pub value_at-put_other : (t : Sparse) (k v q : ℕ) → (q ≡ k → ⊥) → value_at (put t k v) q ≡ value_at t q
value_at-put_other t k v q other = value_at-put t k v q ∙ ap (λ b. cond b v (value_at t q)) (ne_eqb q k other)

pub value_at-row_before : (t : Sparse) (key : ℕ) (value : ℕ → ℕ) (n q : ℕ) → q < key → value_at (with_row t key value n) q ≡ value_at t q
unfolding with_row
value_at-row_before t key value zero q before = refl
value_at-row_before t key value (suc n) q before =
    value_at-put_other (with_row t key value n) (key + n) (value n) q (λ same. omega arith) ∙ value_at-row_before t key value n q before

pub value_at-row_after : (t : Sparse) (key : ℕ) (value : ℕ → ℕ) (n q : ℕ) → key + n ≤ q → value_at (with_row t key value n) q ≡ value_at t q
unfolding with_row
value_at-row_after t key value zero q after = refl
value_at-row_after t key value (suc n) q after =
    value_at-put_other (with_row t key value n) (key + n) (value n) q (λ same. omega arith) ∙ value_at-row_after t key value n q (omega arith)

pub value_at-row : (t : Sparse) (key : ℕ) (value : ℕ → ℕ) (n k : ℕ) → k < n → value_at (with_row t key value n) (key + k) ≡ value k
unfolding with_row
value_at-row t key value zero k within = absurd (omega arith)
value_at-row t key value (suc n) k within = elim (cases_eq k n) [
  | inl last ↦ ap (λ j. value_at (put (with_row t key value n) (key + n) (value n)) (key + j)) last ∙ value_at-put_same (with_row t key value n) (key + n) (value n) ∙ ap value (sym last)
  | inr earlier ↦ value_at-put_other (with_row t key value n) (key + n) (value n) (key + k) (λ same. earlier (omega arith)) ∙ value_at-row t key value n k (omega arith)
]

-- at a key of the row, by the key
pub value_at-row_key : (t : Sparse) (key : ℕ) (value : ℕ → ℕ) (n q : ℕ) → key ≤ q → q < key + n → value_at (with_row t key value n) q ≡ value (q - key)
value_at-row_key t key value n q from to =
    let e : q ≡ key + (q - key) = omega arith in
    ap (value_at (with_row t key value n)) e ∙ value_at-row t key value n (q - key) (omega arith)
