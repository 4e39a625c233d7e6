use Rattle.node_link.proofs.Slots.{placed_err, placed_ok}
use Rattle.node_link.proofs.links.carry_at.Goals as goal

pub returns-clause-ok : goal.returns-clause-ok
returns-clause-ok c = placed_ok c.carry_over.result c.args.links.now.items c.args.place c.index_mut.result.now c.carry_over.new.slot c.args.seed c.requires c.index_mut.ensures.value c.carry_over.ensures.ok

pub returns-clause-err : goal.returns-clause-err
returns-clause-err c = placed_err c.carry_over.result c.args.links.now.items c.args.place c.index_mut.result.now c.carry_over.new.slot c.index_mut.ensures.value c.carry_over.ensures.err
