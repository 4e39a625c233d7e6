use Rattle.std.proofs.Common.{◌≡◌}
use Rattle.std.specs.Prelude.{max}
use Rattle.space_model.specs.Space.{levels_of}
use Rattle.space_tree.specs.Kept.{children_in}
use Rattle.space_tree.proofs.Heights.{most_levels}
use Rattle.space_tree.proofs.children.known_levels.Given as goal

abbrev pub invariant-loop-child : goal.invariant-loop-child
invariant-loop-child l = max l.most (most_levels l.child-iterator) ≡ levels_of (children_in l.entries.entries)
