use Rattle.std.proofs.lemmas.Result.{IfOk-weaker}
use Rattle.demand_eval.proofs.Everyone.{numbers_in}
use Rattle.demand_eval.proofs.running.numbers.Goals as goal

pub returns : goal.returns
returns c = IfOk-weaker c.keys.result _ _ (λ ns told. numbers_in c.entries.result.now.entries ns.items c.args.children.now c.entries.ensures told) c.keys.ensures
