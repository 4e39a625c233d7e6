use Rattle.std.proofs.Common.{◌≡◌}
use Rattle.space_model.specs.Space.{are_settled}
use Rattle.space_tree.specs.Kept.{children_in}
use Rattle.space_tree.proofs.Values.{all_settled}
use Rattle.space_tree.proofs.settled.+settled.Given as goal

abbrev pub invariant-each_settled-loop-child : goal.invariant-each_settled-loop-child
invariant-each_settled-loop-child l = all_settled l.child-iterator ≡ are_settled (children_in l.entries.entries)
