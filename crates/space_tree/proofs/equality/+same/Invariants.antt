use Rattle.space_tree.specs.Kept.{children_in}
use Rattle.space_tree.proofs.Alike.{AreAlike}
use Rattle.space_tree.proofs.equality.+same.Given as goal

abbrev pub invariant-same_entries-loop-number : goal.invariant-same_entries-loop-number
invariant-same_entries-loop-number l = AreAlike (children_in l.a.entries) (children_in l.b.entries) (children_in l.number-iterator) (children_in l.others)
