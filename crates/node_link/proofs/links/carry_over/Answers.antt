use Rattle.node_link.proofs.Slots.{made_err, made_ok, new_ok}
use Rattle.node_link.proofs.links.carry_over.Goals as goal

pub returns-in-Some-clause-ok : goal.returns-in-Some-clause-ok
returns-in-Some-clause-ok c = made_ok c.carry.result c.args.slot.now c.in-Some.link c.carry.new.self c.args.seed c.in-Some.is c.carry.ensures.ok

pub returns-in-Some-clause-err : goal.returns-in-Some-clause-err
returns-in-Some-clause-err c = made_err c.carry.result c.args.slot.now c.in-Some.link c.carry.new.self c.in-Some.is c.carry.ensures.err

pub returns-in-Ok-clause-ok : goal.returns-in-Ok-clause-ok
returns-in-Ok-clause-ok c = new_ok c.args.slot.now c.new-link.result c.carry-2.new.self c.args.seed c.in_default.not-Some c.new-link.ensures c.in-Ok.ensures.ok
