use Rattle.std.proofs.Common.{◌≡◌, ℕ, ◌<◌, ◌≤◌, ◌==◌, cond, slice_index, length}
use Rattle.page_marks.specs.Lists.{no_page}
use Rattle.page_marks.proofs.few.FewPages.remove.Given as goal

abbrev pub invariant-loop-i : goal.invariant-loop-i
invariant-loop-i l = record {
  size : length l.fn.self.places ≡ 6;
  sized : length l.self.places ≡ length l.fn.self.places;
  gone : (j : ℕ) → j < l.i → slice_index l.self.places j ≡ cond (slice_index l.fn.self.places j == l.page) no_page (slice_index l.fn.self.places j);
  rest : (j : ℕ) → l.i ≤ j → slice_index l.self.places j ≡ slice_index l.fn.self.places j;
}
