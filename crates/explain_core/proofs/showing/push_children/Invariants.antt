use Rattle.std.proofs.Common.{◌≡◌, ◌++◌}
use Rattle.space_tree.specs.Kept.{children_in}
use Rattle.explain_core.specs.Text.{children_text}
use Rattle.explain_core.proofs.showing.push_children.Given as goal

abbrev pub invariant-loop-number : goal.invariant-loop-number
invariant-loop-number l = l.text.items ++ children_text (children_in l.number-iterator) ≡ l.fn.text.items ++ children_text l.children
