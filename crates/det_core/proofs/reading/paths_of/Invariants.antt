use Rattle.std.proofs.Common.{◌≡◌, ◌+◌, ◌≤◌, List, length}
use Rattle.text_lines.specs.Lines.{lines_of}
use Rattle.text_lines.specs.Reading.{items_of}
use Rattle.text_lines.proofs.Loops.{and_then}
use Rattle.schedule_model.specs.Schedule.{Item, paths_from}
use Rattle.schedule_model.specs.Reading.{item_of}
use Rattle.det_core.specs.View.{path_views}
use Rattle.det_core.proofs.reading.paths_of.Given as goal

abbrev pub invariant-loop-rest : goal.invariant-loop-rest
invariant-loop-rest l = record {
  front : List Item;
  made : path_views l.paths.items ≡ paths_from front;
  so_far : and_then front (items_of item_of l.number (lines_of l.rest)) ≡ items_of item_of 1 (lines_of l.bytes);
  few : l.number + length l.rest ≤ length l.bytes + 1;
}

abbrev pub decreases-loop-rest : goal.decreases-loop-rest
decreases-loop-rest l = length l.rest
