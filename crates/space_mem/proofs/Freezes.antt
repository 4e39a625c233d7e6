-- Pages that are made shareable.
use Rattle.std.specs.Prelude.{◌≡◌, ℕ, ◌<◌, ◌≤◌, true, false, cond, Result, Ok, Err, OnOk}
use Rattle.std.proofs.Common.{◌∙◌, ap, arith, inl, inr}
use Rattle.std.proofs.lemmas.Bool.{cases_lt}
use Rattle.memory_model.specs.Sparse.{value_at}
use Rattle.page_tree.specs.TreeRefs.{root_own}
use Rattle.space_mem.specs.declared.table.PageTable.{PageTable}
use Rattle.space_mem.specs.Held.{Owns}
use Rattle.space_mem.specs.Tables.{held_of}
use Rattle.space_mem.proofs.Tables.{owned_at, owned_high, owns_own, own_owns}

-- what a memory owns
pub none_owned_on : {T E : Type 0} (r : Result T E) (t : PageTable) (first end : ℕ) → end ≤ 1048576 → OnOk r ((p : ℕ) → first ≤ p → p < end → root_own t.pages p ≡ false) → OnOk r ((p : ℕ) → first ≤ p → p < end → value_at (held_of t).owned p ≡ 0)
none_owned_on (Ok v) t first end within none = λ p low high. owned_at t.pages p (omega arith) ∙ ap (λ b. cond b 1 0) (none p low high)
none_owned_on (Err e) t first end within none = tt

pub owns_less : (t s : PageTable) → ((p : ℕ) → p < 1048576 → root_own s.pages p ≡ true → root_own t.pages p ≡ true) → (p : ℕ) → Owns (held_of s) p → Owns (held_of t) p
owns_less t s less p owns = elim (cases_lt p 1048576) [
  | inl below ↦ own_owns t p below (less p below (owns_own s p below owns))
  | inr high ↦ let none = owned_high s.pages p high in absurd (omega (arith, none, owns))
]
