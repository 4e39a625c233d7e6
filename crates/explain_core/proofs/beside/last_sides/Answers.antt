use Rattle.explain_core.proofs.BothSides.{both_fewer, both_left, both_told, one_out}
use Rattle.explain_core.proofs.beside.last_sides.Goals as goal

pub run_both-requires-clause-asked : goal.run_both-requires-clause-asked
run_both-requires-clause-asked c = both_left c.in_ok-asked.asked c.args.below.now.items c.args.path.now.items c.args.watched c.both_at_first-sides.result c.in_ok-asked.ensures c.both_at_first-sides.ensures

pub returns-then-both-clause-tells : goal.returns-then-both-clause-tells
returns-then-both-clause-tells c =
    both_told c.args.tree c.run_both.new.tree c.args.path.now.items c.args.below.now.items c.args.number c.in_ok-asked.asked c.args.watched c.both_at_first-sides.result c.run_both.new.sides c.requires.child c.in_ok-asked.ensures c.requires.sound c.both_at_first-sides.ensures
    (c.in_ok-both.ensures.both c.if-both.true)

pub returns-then-both-clause-fewer : goal.returns-then-both-clause-fewer
returns-then-both-clause-fewer c =
    both_fewer c.args.tree c.run_both.new.tree c.args.path.now.items c.args.below.now.items c.args.number c.in_ok-asked.asked c.args.watched c.both_at_first-sides.result c.run_both.new.sides c.requires.child c.in_ok-asked.ensures c.requires.sound c.both_at_first-sides.ensures
    (c.in_ok-both.ensures.both c.if-both.true)

pub returns-clause-none : goal.returns-clause-none
returns-clause-none c none =
    one_out c.args.tree c.run_both.new.tree c.args.path.now.items c.args.below.now.items c.args.number c.in_ok-asked.asked c.args.watched c.both_at_first-sides.result c.run_both.new.sides c.requires.child c.in_ok-asked.ensures c.requires.sound c.both_at_first-sides.ensures
    (c.in_ok-both.ensures.out c.if-both.false)
