use Rattle.std.proofs.Common.{IsNone, refl, sym, ◌∙◌, subst}
use Rattle.explain_core.proofs.TurnsAt.{event_stays, event_told}
use Rattle.explain_core.proofs.turning.event_at.Goals as goal

pub returns-in-Some-at-clause-turns : goal.returns-in-Some-at-clause-turns
returns-in-Some-at-clause-turns c =
    let found = c.in-Some.ensures.some in
    event_told c.args.watched c.args.path.now.items c.args.before c.changed_in.result c.args.tree.now c.step.new.space found.0 c.in-Some-at.space.now c.space.inside.top c.space.inside.children c.in-Some.found
    (sym c.in_ok-happened.ensures.ok ∙ c.if-not-happened.false) c.in_ok-happened.ensures.stepped found.1 c.in-Some-at.ensures.some c.space.view_is found.2 c.changed_in.ensures

pub returns-in-None-clause-turns : goal.returns-in-None-clause-turns
returns-in-None-clause-turns c =
    absurd (event_stays c.args.path.now.items c.args.tree.now c.step.new.space (sym c.in_ok-happened.ensures.ok ∙ c.if-not-happened.false) c.in_ok-happened.ensures.stepped (c.at.ensures.none (subst IsNone (sym c.in-None.is) refl)))
