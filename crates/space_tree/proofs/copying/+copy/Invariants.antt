use Rattle.std.proofs.Common.{◌≡◌, ◌+◌, ◌*◌, take}
use Rattle.space_model.specs.Encoding.{size_of, sizes}
use Rattle.space_tree.specs.Kept.{unboxed, children_in}
use Rattle.space_tree.proofs.copying.+copy.Given as goal

abbrev pub invariant-copy_entries-loop-number : goal.invariant-copy_entries-loop-number
invariant-copy_entries-loop-number l = record {
  same : unboxed l.entries.entries ≡ unboxed l.fn.entries.entries;
  copied : unboxed l.copies.entries ≡ take l.number-index (unboxed l.fn.entries.entries);
}

abbrev pub decreases-copy_tree : goal.decreases-copy_tree
decreases-copy_tree l = 4 * size_of l.space.now

abbrev pub decreases-copy_children : goal.decreases-copy_children
decreases-copy_children l = 4 * sizes l.children.now + 3

abbrev pub decreases-copy_entries : goal.decreases-copy_entries
decreases-copy_entries l = 4 * sizes (children_in l.entries.now.entries) + 2

abbrev pub decreases-copy_entry : goal.decreases-copy_entry
decreases-copy_entry l = 4 * sizes (children_in l.entries.now.entries) + 1
