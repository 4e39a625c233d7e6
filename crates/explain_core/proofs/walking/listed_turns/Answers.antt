use Rattle.std.proofs.lemmas.Result.{IfOk-weaker}
use Rattle.explain_core.proofs.WatchLists.{goes_on_listed}
use Rattle.explain_core.proofs.walking.listed_turns.Goals as goal

pub returns : goal.returns
returns c =
    IfOk-weaker c.turns_at.result _ _
    (λ o goes. goes_on_listed o c.args.list.now.wanted.entries c.args.path.now.items c.in_ok-watched.watched c.args.notes.now.entries c.turns_at.new.notes.entries c.args.tree.now c.turns_at.new.tree c.in_ok-watched.ensures goes)
    c.turns_at.ensures
