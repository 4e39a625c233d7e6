use Rattle.std.proofs.Common.{ℕ, ◌≡◌, All, take}
use Rattle.space_mem.specs.Held.{Covers, IsClean}
use Rattle.snapshot.proofs.merging.unmark_each.Given as goal

abbrev pub invariant-loop-page : goal.invariant-loop-page
invariant-loop-page l = record {
  same : l.child.memory ≡ l.fn.child.memory;
  covers : Covers l.child l.snapshot.memory;
  stays : (page : ℕ) → IsClean l.fn.child page → IsClean l.child page;
  clean : All (IsClean l.child) (take l.page-index l.each);
}
