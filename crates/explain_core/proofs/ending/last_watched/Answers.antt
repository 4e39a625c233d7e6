use Rattle.std.proofs.Common.{◌-◌, ap}
use Rattle.std.specs.Prelude.{option_map}
use Rattle.std.proofs.lemmas.Result.{IfOk-weaker}
use Rattle.explain_core.specs.Watch.{kept_of, noted_of}
use Rattle.explain_core.proofs.Endings.{change_told}
use Rattle.explain_core.proofs.ending.last_watched.Goals as goal

pub returns : goal.returns
returns c =
    IfOk-weaker c.told_last.result _ _
    (λ o told start sound h so_many. change_told start c.args.tree c.go_on.new.tree c.args.path.now.items c.in_ok-asked.asked c.args.count (c.args.count - c.saturating_sub.result) c.in_ok-go_on.field-0 c.args.watched
    (kept_of c.args.kept) c.go_on.new.kept (option_map noted_of o) sound c.in_ok-asked.ensures (ap (λ n. c.args.count - n) c.saturating_sub.ensures) c.requires.count h so_many c.in_ok-go_on.ensures told) c.told_last.ensures
