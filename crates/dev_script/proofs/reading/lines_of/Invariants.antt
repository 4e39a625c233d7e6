use Rattle.std.proofs.Common.{◌≡◌, ◌+◌, ◌≤◌, List, length}
use Rattle.text_lines.specs.Lines.{lines_of}
use Rattle.text_lines.specs.Reading.{items_of}
use Rattle.text_lines.proofs.Loops.{and_then}
use Rattle.script_model.specs.Script.{Item, devices_from}
use Rattle.script_model.specs.Reading.{item_of}
use Rattle.dev_script.specs.View.{script_view}
use Rattle.dev_script.proofs.reading.lines_of.Given as goal

abbrev pub invariant-loop-rest : goal.invariant-loop-rest
invariant-loop-rest l = record {
  front : List Item;
  made : script_view l.script ≡ devices_from front;
  so_far : and_then front (items_of item_of l.number (lines_of l.rest)) ≡ items_of item_of 1 (lines_of l.bytes);
  few : l.number + length l.rest ≤ length l.bytes + 1;
}

abbrev pub decreases-loop-rest : goal.decreases-loop-rest
decreases-loop-rest l = length l.rest
