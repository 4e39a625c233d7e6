use Rattle.std.proofs.Common.{◌≡◌, ◌==◌, ◌≤◌, ℕ, List, length}
use Rattle.std.specs.List.{slice_split}
use Rattle.std.proofs.lemmas.Iterator.{YieldsList}
use Rattle.schedule_model.specs.Reading.{numbers_of, and_short}
use Rattle.det_core.proofs.Parts.{numbers_after}
use Rattle.det_core.proofs.schedule_line.path_of_numbers.Given as goal

abbrev pub invariant-loop-digits : goal.invariant-loop-digits
invariant-loop-digits l = record {
  short : length l.path.items ≤ 8;
  left : List (List ℕ);
  yields : YieldsList (goal.iterator-loop-digits).next_gives (λ x. x.now) l.digits-iterator left;
  so_far : numbers_after l.path.items (numbers_of left) ≡ and_short (numbers_of (slice_split (λ b. b == 47) l.text));
}
