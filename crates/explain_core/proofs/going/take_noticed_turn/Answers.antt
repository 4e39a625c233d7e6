use Rattle.std.proofs.Common.{◌+◌, ◌-◌, arith, refl, ap, ◌∙◌, subst}
use Rattle.space_model.specs.Space.{space}
use Rattle.explain_core.specs.Going.{TakesTurn}
use Rattle.explain_core.specs.Watch.{kept_of}
use Rattle.explain_core.proofs.Traces.{one_noticed, tells_nothing, tells_one}
use Rattle.explain_core.proofs.going.take_noticed_turn.Goals as goal

pub returns-then-turn-eq0 : goal.returns-then-turn-eq0
returns-then-turn-eq0 c =
    let there = ap (λ t. space t c.space.inside.children) c.before_event.ensures.same ∙ c.space.view_is in
    let takes = subst (λ s. TakesTurn (8 - c.args.depth) 1 c.in_ok-turn.turn s c.take_turn.new.space) there c.in_ok-turn.ensures in
    tells_nothing (8 - c.args.depth) (c.args.asked.now.to + 1 - c.args.number) c.args.number c.args.asked.now c.in_ok-turn.turn (kept_of c.args.kept.now) c.args.space.now c.take_turn.new.space
    c.requires.number c.requires.last refl c.if-turn-eq0.true takes

pub returns : goal.returns
returns c =
    let some = c.if-turn-eq0.false in
    let before = c.in_ok-before.ensures in
    let there = ap (λ t. space t c.space.inside.children) c.before_event.ensures.same ∙ c.space.view_is in
    let takes = subst (λ s. TakesTurn (8 - c.args.depth) 1 c.in_ok-turn.turn s c.take_turn.new.space) there c.in_ok-turn.ensures in
    let told = one_noticed c.args.asked.now.path.items c.args.asked.now.noticing c.args.number c.args.space.now c.take_turn.new.space c.space.inside.top c.space-2.inside.top c.space.inside.children c.space-2.inside.children
    _ _ (kept_of c.args.kept.now) _ c.space.view_is c.space-2.view_is before.found before.memory c.in_ok-notice.ensures in
    tells_one (8 - c.args.depth) (c.args.asked.now.to + 1 - c.args.number) c.args.number c.args.asked.now c.in_ok-turn.turn (kept_of c.args.kept.now) (kept_of c.notice.new.kept) c.args.space.now c.take_turn.new.space
    c.requires.number c.requires.last c.requires.asked refl (omega (arith, some)) takes told
