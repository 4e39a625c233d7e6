use Rattle.std.proofs.Common.{◌-◌, subst}
use Rattle.explain_core.specs.Reached.{HasJustHappened, NeverHappens}
use Rattle.explain_core.proofs.Coming.{cannot_happen, has_happened}
use Rattle.explain_core.proofs.going.run_to.Goals as goal

pub returns-clause-happened : goal.returns-clause-happened
returns-clause-happened c e =
    let same = c.in_ok-copied.ensures in
    subst (λ p. HasJustHappened c.args.tree.now p (c.args.number - 1) c.go_as_asked.new.tree) same
    (has_happened c.args.tree.now c.go_as_asked.new.tree c.in_ok-copied.field-0.items _ c.args.number c.in_ok-left.left _ _ c.requires.number e c.in_ok-left.ensures)

pub returns-clause-never : goal.returns-clause-never
returns-clause-never c e =
    let same = c.in_ok-copied.ensures in
    subst (λ p. NeverHappens c.args.tree.now p (c.args.number - 1)) same
    (cannot_happen c.args.tree.now c.go_as_asked.new.tree c.in_ok-copied.field-0.items _ c.args.number c.in_ok-left.left _ _ c.requires.sound c.requires.number e c.in_ok-left.ensures)
