use Rattle.std.proofs.Common.{◌-◌, ◌≤◌}
use Rattle.page_tree.specs.TreeRefs.{root_row, AreWholeRoot}
use Rattle.space_mem.specs.Moves.{HasMoved}
use Rattle.space_mem.proofs.copying.move_pages.Given as goal

abbrev pub invariant-loop-done : goal.invariant-loop-done
invariant-loop-done l = record {
  within : l.done ≤ l.count;
  moved : HasMoved (root_row l.source) l.from l.first l.done (root_row l.made);
  whole : AreWholeRoot l.made;
}

abbrev pub decreases-loop-done : goal.decreases-loop-done
decreases-loop-done l = l.count - l.done
