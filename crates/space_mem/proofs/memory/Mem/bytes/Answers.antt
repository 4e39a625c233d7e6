use Rattle.std.proofs.Common.{arith}
use Rattle.space_mem.proofs.Strings.{string_turn}
use Rattle.space_mem.proofs.memory.Mem.bytes.Goals as goal

pub loop-done-preserved : goal.loop-done-preserved
loop-done-preserved c = record {
  in_range = omega (arith, c.loop-done.invariant.in_range, c.min-part.ensures);
  bytes = string_turn c.args.self.now.memory c.args.at c.loop-done.done c.min-part.result _ _ c.loop-done.invariant.bytes c.in_ok-push_bytes.ensures;
}
