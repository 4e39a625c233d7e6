use Rattle.std.proofs.Common.{inl, inr}
use Rattle.explain_core.proofs.EventsBefore.{before_left, child_out, has_before, has_ended, never_above, told_before}
use Rattle.explain_core.proofs.before.sides_before.Goals as goal

pub run_both-requires-clause-asked : goal.run_both-requires-clause-asked
run_both-requires-clause-asked c =
    let asked = c.in_ok-asked.ensures in
    let first = c.before_at_first-sides.ensures in
    before_left c.in_ok-asked.asked c.args.below.now.items c.args.number c.args.watched c.before_at_first-sides.result c.requires.number asked.below asked.above first.below first.above

pub returns-then-both-clause-none : goal.returns-then-both-clause-none
returns-then-both-clause-none c none =
    inl (never_above c.args.tree c.run_both.new.tree c.args.path.now.items c.args.child c.args.number c.in_ok-asked.asked c.before_at_first-sides.result c.run_both.new.sides c.requires.sound c.requires.number
    c.before_at_first-sides.ensures.above (c.in_ok-both.ensures.both c.if-both.true))

pub returns-then-sides-eq0-clause-none : goal.returns-then-sides-eq0-clause-none
returns-then-sides-eq0-clause-none c none =
    inr (child_out c.args.tree c.run_both.new.tree c.args.path.now.items c.args.below.now.items c.args.child c.in_ok-asked.asked c.args.watched c.before_at_first-sides.result c.run_both.new.sides c.requires.child c.requires.sound
    c.in_ok-asked.ensures.below c.before_at_first-sides.ensures.below (c.in_ok-both.ensures.out c.if-both.false) c.if-sides-eq0.true)

pub returns-clause-before : goal.returns-clause-before
returns-clause-before c =
    let ends = has_ended c.args.tree c.run_both.new.tree c.args.path.now.items c.args.child c.in_ok-asked.asked c.before_at_first-sides.result c.run_both.new.sides (c.in_ok-both.ensures.out c.if-both.false) c.if-sides-eq0.false in
    has_before c.args.tree c.run_both.new.tree c.args.path.now.items c.args.below.now.items c.args.number c.args.child c.in_ok-asked.asked c.before_at_first-sides.result c.run_both.new.sides c.requires.child c.requires.sound
    c.before_at_first-sides.ensures.below c.before_at_first-sides.ensures.above ends

pub returns-clause-tells : goal.returns-clause-tells
returns-clause-tells c =
    let ends = has_ended c.args.tree c.run_both.new.tree c.args.path.now.items c.args.child c.in_ok-asked.asked c.before_at_first-sides.result c.run_both.new.sides (c.in_ok-both.ensures.out c.if-both.false) c.if-sides-eq0.false in
    told_before c.args.tree c.run_both.new.tree c.args.path.now.items c.args.below.now.items c.args.child c.in_ok-asked.asked c.args.watched c.before_at_first-sides.result c.run_both.new.sides c.requires.child
    c.in_ok-asked.ensures.below c.before_at_first-sides.ensures.below ends
