use Rattle.std.proofs.Common.{◌≡◌, ◌+◌, ◌*◌}
use Rattle.space_model.specs.Encoding.{size_of, sizes}
use Rattle.space_tree.specs.Kept.{children_in}
use Rattle.space_tree.proofs.looking.+look.Given as goal

abbrev pub invariant-is_one_running-loop : goal.invariant-is_one_running-loop
invariant-is_one_running-loop l = l.children ≡ l.fn.children

abbrev pub decreases-look_at : goal.decreases-look_at
decreases-look_at l = 4 * size_of l.space.now

abbrev pub decreases-look_at_all : goal.decreases-look_at_all
decreases-look_at_all l = 4 * sizes l.children.now + 3

abbrev pub decreases-is_one_running : goal.decreases-is_one_running
decreases-is_one_running l = 4 * sizes l.children.now + 2

abbrev pub decreases-look_at_entry : goal.decreases-look_at_entry
decreases-look_at_entry l = 4 * sizes (children_in l.entries.now.entries) + 1
