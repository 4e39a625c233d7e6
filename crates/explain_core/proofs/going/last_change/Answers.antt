use Rattle.std.proofs.lemmas.Result.{IfOk-weaker}
use Rattle.std.specs.Prelude.{option_map}
use Rattle.explain_core.specs.Watch.{noted_of}
use Rattle.explain_core.proofs.LastChange.{last_told, none_of_none}
use Rattle.explain_core.proofs.going.last_change.Goals as goal

pub returns-then-to-eq0 : goal.returns-then-to-eq0
returns-then-to-eq0 c = none_of_none c.args.tree c.args.path.now.items c.args.to c.args.watched c.if-to-eq0.true

pub returns : goal.returns
returns c = IfOk-weaker c.told_last.result _ _ (λ o told. last_told c.args.tree c.args.path.now.items c.args.to c.args.watched c.in_ok-kept.kept.last (option_map noted_of o) c.in_ok-kept.ensures told) c.told_last.ensures
