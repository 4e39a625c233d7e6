use Rattle.std.proofs.Common.{length}
use Rattle.space_mem.proofs.Taken.{IsPutTurn}
use Rattle.space_mem.proofs.table.PageTable.put_each.Given as goal

abbrev pub invariant-loop-put : goal.invariant-loop-put
invariant-loop-put l = IsPutTurn l.fn.self l.self l.fn.puts.items l.puts.items

abbrev pub decreases-loop-put : goal.decreases-loop-put
decreases-loop-put l = length l.puts.items
