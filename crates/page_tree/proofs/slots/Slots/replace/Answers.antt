use Rattle.std.proofs.Common.{arith}
use Rattle.page_tree.proofs.Counts.{count_most}
use Rattle.page_tree.proofs.slots.Slots.replace.Goals as goal

pub count_after-self-inside-requires-clause-few : goal.count_after-self-inside-requires-clause-few
count_after-self-inside-requires-clause-few c = omega (arith, count_most c.self.inside.slots, c.self.invariant.sized, c.self.invariant.counted)
