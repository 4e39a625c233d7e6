use Rattle.std.proofs.Common.{refl, rules}
use Rattle.std.proofs.lemmas.Result.{IfOk-weaker}
use Rattle.explain_why.proofs.Spaces.{nowhere, there}
use Rattle.explain_why.proofs.telling.explain_space.Goals as goal

pub returns-in_default-clause-told : goal.returns-in_default-clause-told
returns-in_default-clause-told c = nowhere c.args.root.now c.args.end.now c.args.path.now.items c.new.result.items (c.in_default.ensures.none refl) (search rules)

pub returns-clause-told : goal.returns-clause-told
returns-clause-told c =
    IfOk-weaker c.explain_top.result _ _
    (λ v told. there c.args.root.now c.args.end.now c.in-Some.space.now c.args.path.now.items c.top.result.now v.items c.in-Some.ensures.some c.top.ensures told) c.explain_top.ensures.told
