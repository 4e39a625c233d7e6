use Rattle.std.proofs.Common.{◌≡◌, ℕ, ◌<◌, length, slice_index}
use Rattle.page_marks.proofs.few.FewPages.place_of.Given as goal

abbrev pub invariant-loop-i : goal.invariant-loop-i
invariant-loop-i l = record {
  sized : length l.self.places ≡ 6;
  none : (j : ℕ) → j < l.i → slice_index l.self.places j ≡ l.number → ⊥;
}
