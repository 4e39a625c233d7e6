use Rattle.std.proofs.lemmas.Result.{IfOk-weaker}
use Rattle.explain_core.proofs.Walked.{turn_told}
use Rattle.explain_core.proofs.turning.event_kept.Goals as goal

pub returns-in-Ok : goal.returns-in-Ok
returns-in-Ok c =
    let event = c.in-Ok.event in
    IfOk-weaker c.keep_turn.result _ _
    (λ o kept. turn_told c.args.tree.now c.event_at.new.tree c.args.watched c.args.path.now.items c.args.notes.now.entries c.keep_turn.new.notes.entries c.count_at-before.result event.count event.last o c.count_at-before.ensures c.in-Ok.ensures.turns kept)
    c.keep_turn.ensures
