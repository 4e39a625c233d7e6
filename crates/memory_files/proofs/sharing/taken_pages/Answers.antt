use Rattle.memory_files.proofs.Taking.{before_more, before_none}
use Rattle.memory_files.proofs.sharing.taken_pages.Goals as goal

pub loop-slot-init : goal.loop-slot-init
loop-slot-init c = before_none c.args.plan.now.whole c.args.plan.now.from c.new-pages.result.items c.new-pages.ensures.items

pub loop-slot-preserved : goal.loop-slot-preserved
loop-slot-preserved c = before_more c.args.plan.now.whole c.args.plan.now.from c.loop-slot.slot c.loop-slot.pages.items c.push_run.new.pages.items c.loop-slot.invariant c.in_ok-push_run.ensures
