use Rattle.std.proofs.Common.{arith}
use Rattle.page_tree.proofs.Counts.{count_most}
use Rattle.page_tree.proofs.slots.Slots.own.Goals as goal

pub overflow_add-self : goal.overflow_add-self
overflow_add-self c = omega (arith, count_most c.self.inside.slots, c.self.invariant.sized, c.self.invariant.counted)
