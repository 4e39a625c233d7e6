use Rattle.std.proofs.Common.{rules}
use Rattle.explain_core.proofs.Coming.{shows}
use Rattle.explain_core.proofs.asking.after_event.Goals as goal

pub returns-then-not-happened-clause-none : goal.returns-then-not-happened-clause-none
returns-then-not-happened-clause-none c e = c.in_ok-happened.ensures.never c.if-not-happened.true

pub returns-in-Some-clause-some : goal.returns-in-Some-clause-some
returns-in-Some-clause-some c =
    shows c.args.bytes c.args.tree c.args.path.now.items c.args.number c.run_to.new.tree c.in-Some.space.now _ c.requires.number (c.in_ok-happened.ensures.happened c.if-not-happened.false) (search rules) (search rules)
