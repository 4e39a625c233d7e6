use Rattle.std.proofs.Common.{◌≡◌, ◌≤◌}
use Rattle.std.specs.Prelude.{max, min}
use Rattle.space_model.specs.Space.{levels_of}
use Rattle.space_tree.specs.Kept.{children_in}
use Rattle.space_tree.proofs.Heights.{most_levels}
use Rattle.space_tree.proofs.levels.+height.Given as goal

abbrev pub invariant-levels_of_each-loop-child : goal.invariant-levels_of_each-loop-child
invariant-levels_of_each-loop-child l = record {
  small : l.most ≤ 255;
  same : min (max l.most (most_levels l.child-iterator)) 255 ≡ min (levels_of (children_in l.entries.entries)) 255;
}
