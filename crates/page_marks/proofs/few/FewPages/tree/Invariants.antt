use Rattle.std.proofs.Common.{◌≡◌, ℕ, ◌<◌, take}
use Rattle.memory_model.specs.Sizes.{pages}
use Rattle.page_tree.specs.TreeRefs.{root_permission}
use Rattle.page_marks.specs.Marks.{IsBareTree, mark_in}
use Rattle.page_marks.proofs.few.FewPages.tree.Given as goal

abbrev pub invariant-loop-number : goal.invariant-loop-number
invariant-loop-number l = record {
  marks : (p : ℕ) → p < pages → root_permission l.tree p ≡ mark_in (take l.number-index l.self.places) p;
  bare : IsBareTree l.tree;
}
