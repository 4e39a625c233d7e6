use Rattle.std.proofs.Common.{◌≡◌, ap, arith, ℕ, get_or, ◌∙◌, replicate, inl, inr}
use Rattle.std.proofs.lemmas.Bool.{cases_lt}
use Rattle.std.proofs.lemmas.List.{get_or-replicate, get_or_past, length-replicate}
use Rattle.page_store.proofs.PageRef.zeros.Goals as goal

zeros : (n k : ℕ) → ◌≡◌ {A = ℕ} (get_or (replicate n 0) k 0) 0
zeros n k = elim (cases_lt k n) [
  | inl below ↦ get_or-replicate n k 0 0 below
  | inr above ↦ get_or_past _ k 0 (omega (arith, length-replicate {A = ℕ} n 0))
]

pub returns-clause-zeros : goal.returns-clause-zeros
returns-clause-zeros c k = ap (λ p. get_or p.bytes k 0) c.in_ok-page.ensures.ok ∙ zeros 4096 k
