use Rattle.std.proofs.Common.{subst}
use Rattle.std.proofs.lemmas.Result.{IfOk-weaker}
use Rattle.explain_core.specs.TurnsAt.{TurnsAt}
use Rattle.explain_core.proofs.Walked.{turn_told}
use Rattle.explain_core.proofs.turning.stretch_kept.Goals as goal

pub returns : goal.returns
returns c =
    let w = c.args.watched in
    let stretch = c.stretch_at-stretch.result in
    let turns = subst (λ p. TurnsAt 8 w p c.count_at-before.result stretch.count stretch.last c.args.tree.now c.stretch_at-stretch.new.space) c.as_slice.ensures.value (c.stretch_at-stretch.ensures.turns 8) in
    IfOk-weaker c.keep_turn.result _ _
    (λ o kept. turn_told c.args.tree.now c.stretch_at-stretch.new.space w c.args.path.now.items c.args.notes.now.entries c.keep_turn.new.notes.entries c.count_at-before.result stretch.count stretch.last o c.count_at-before.ensures turns kept)
    c.keep_turn.ensures
