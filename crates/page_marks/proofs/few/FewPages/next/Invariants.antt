use Rattle.std.proofs.Common.{◌≡◌, ℕ, ◌<◌, ◌≤◌, true, length, slice_index}
use Rattle.memory_model.specs.Sizes.{pages}
use Rattle.page_marks.specs.Lists.{has_page}
use Rattle.page_marks.proofs.few.FewPages.next.Given as goal

abbrev pub invariant-loop-i : goal.invariant-loop-i
invariant-loop-i l = record {
  sized : length l.self.places ≡ 6;
  most : l.least ≤ pages;
  from : l.least < pages → l.n ≤ l.least;
  has : l.least < pages → has_page l.self.places l.least ≡ true;
  least : (j : ℕ) → j < l.i → l.n ≤ slice_index l.self.places j → l.least ≤ slice_index l.self.places j;
}
