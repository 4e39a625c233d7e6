use Rattle.std.proofs.Common.{ℕ, ◌≡◌, All, take}
use Rattle.space_mem.specs.Held.{KeepsMarks, Marks, Owns}
use Rattle.snapshot.specs.Pages.{HasMerged}
use Rattle.snapshot.proofs.merging.merge_each.Given as goal

abbrev pub invariant-loop-page : goal.invariant-loop-page
invariant-loop-page l = record {
  merged : HasMerged l.snapshot.memory l.child.memory l.fn.parent.memory (take l.page-index l.each) l.parent.memory;
  stays : (page : ℕ) → Owns l.fn.parent page → Owns l.parent page;
  others : (page : ℕ) → All (λ merged. page ≡ merged → ⊥) l.each → KeepsMarks l.fn.parent l.parent page;
  marks : Marks l.fn.parent l.parent;
}
