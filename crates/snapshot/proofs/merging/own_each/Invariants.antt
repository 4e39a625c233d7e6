use Rattle.std.proofs.Common.{ℕ, ◌≡◌, All, take}
use Rattle.space_mem.specs.Held.{KeepsMarks, Marks, Owns}
use Rattle.snapshot.proofs.merging.own_each.Given as goal

abbrev pub invariant-loop-page : goal.invariant-loop-page
invariant-loop-page l = record {
  same : l.memory.memory ≡ l.fn.memory.memory;
  owned : All (Owns l.memory) (take l.page-index l.each);
  stays : (page : ℕ) → Owns l.fn.memory page → Owns l.memory page;
  others : (page : ℕ) → All (λ own. page ≡ own → ⊥) l.each → KeepsMarks l.fn.memory l.memory page;
  marks : Marks l.fn.memory l.memory;
}
