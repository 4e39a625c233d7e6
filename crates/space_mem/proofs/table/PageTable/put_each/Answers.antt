use Rattle.space_mem.proofs.Taken.{turn_start, turn_step}
use Rattle.space_mem.proofs.table.PageTable.put_each.Goals as goal

pub loop-put-init : goal.loop-put-init
loop-put-init c = turn_start c.args.self.now c.args.puts.items c.requires

pub loop-put-preserved : goal.loop-put-preserved
loop-put-preserved c = turn_step c.args.self.now c.loop-put.self c.args.puts.items c.replace.new.self c.loop-put.puts.items c.pop.new.self.items c.in-Some.put c.in-Some.ensures.items c.loop-put.invariant c.replace.ensures.replaced c.replace.ensures.stays c.replace.ensures.whole c.replace.ensures.range

pub loop-put-preserved-in-Some : goal.loop-put-preserved-in-Some
loop-put-preserved-in-Some c = turn_step c.args.self.now c.loop-put.self c.args.puts.items c.replace.new.self c.loop-put.puts.items c.pop.new.self.items c.in-Some.put c.in-Some.ensures.items c.loop-put.invariant c.replace.ensures.replaced c.replace.ensures.stays c.replace.ensures.whole c.replace.ensures.range

pub loop-put-preserved-in-Some-2 : goal.loop-put-preserved-in-Some-2
loop-put-preserved-in-Some-2 c = turn_step c.args.self.now c.loop-put.self c.args.puts.items c.replace.new.self c.loop-put.puts.items c.pop.new.self.items c.in-Some.put c.in-Some.ensures.items c.loop-put.invariant c.replace.ensures.replaced c.replace.ensures.stays c.replace.ensures.whole c.replace.ensures.range
