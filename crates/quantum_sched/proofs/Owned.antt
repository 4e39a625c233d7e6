-- Pages that a caller owns for the threads of a row.
use Rattle.std.specs.Prelude.{ℕ, ◌+◌, ◌≤◌, Option, Some, None}
use Rattle.std.proofs.Common.{sym, subst, arith, inl, inr}
use Rattle.std.proofs.lemmas.Bool.{cases_eq}
use Rattle.memory_model.specs.Memory.{Memory}
use Rattle.space_model.specs.Space.{Space, Children, top_of, find}
use Rattle.space_mem.specs.Held.{Held, Owns}
use Rattle.quantum_sched.specs.Rows.{OwnsWritten, OwnsAt, OwnsRow}

owned_still : (g h : Held) (snapshot : Option Memory) (m : Memory) → ((page : ℕ) → Owns g page → Owns h page) → OwnsWritten g snapshot m → OwnsWritten h snapshot m
owned_still g h None m stays owned = tt
owned_still g h (Some snapshot) m stays owned = λ page low high. elim (owned page low high) [ inl equal ↦ inl equal | inr owns ↦ inr (stays page owns) ]

pub at_still : (g h : Held) (o : Option Space) → ((page : ℕ) → Owns g page → Owns h page) → OwnsAt g o → OwnsAt h o
at_still g h None stays owned = tt
at_still g h (Some s) stays owned = let t = top_of s in owned_still g h t.snapshot t.memory stays owned

pub row_still : (g h : Held) (first count : ℕ) (cs : Children) → ((page : ℕ) → Owns g page → Owns h page) → OwnsRow g first count cs → OwnsRow h first count cs
row_still g h first count cs stays owned k lt = at_still g h (find (first + k) cs) stays (owned k lt)

pub row_none : (h : Held) (first : ℕ) (cs : Children) → OwnsRow h first 0 cs
row_none h first cs k lt = absurd (omega arith)

-- and of one more
pub row_more : (g h : Held) (first i : ℕ) (cs : Children) → ((page : ℕ) → Owns g page → Owns h page) → OwnsRow g first i cs → OwnsAt h (find (first + i) cs) → OwnsRow h first (i + 1) cs
row_more g h first i cs stays before here k lt = elim (cases_eq k i) [
  | inl is ↦ subst (λ n. OwnsAt h (find (first + n) cs)) (sym is) here
  | inr other ↦ at_still g h (find (first + k) cs) stays (before k (omega (arith, other)))
]

pub row_all : (h : Held) (first count i : ℕ) (cs : Children) → count ≤ i → OwnsRow h first i cs → OwnsRow h first count cs
row_all h first count i cs le owned k lt = owned k (omega arith)
