use Rattle.put_get.proofs.Parts.{put_in_order}
use Rattle.put_get.proofs.put.give.Goals as goal

pub returns-clause-ok : goal.returns-clause-ok
returns-clause-ok c =
    put_in_order c.args.x.now c.args.caller.now c.args.child.now c.give_memory.new.child c.give_registers.new.child c.start.new.child c.in_ok-give_memory.ensures.ok c.give_registers.ensures c.start.ensures
