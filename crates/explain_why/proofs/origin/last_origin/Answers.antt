use Rattle.std.proofs.Common.{subst}
use Rattle.std.proofs.lemmas.Result.{IfOk-weaker}
use Rattle.explain_why.specs.Origin.{TellsOrigin}
use Rattle.explain_why.proofs.Origins.{sought_told}
use Rattle.explain_why.proofs.origin.last_origin.Goals as goal

pub returns-clause-told : goal.returns-clause-told
returns-clause-told c =
    let s = c.in_ok-sought.sought in
    IfOk-weaker c.origin_of.result _ _
    (λ v tells. sought_told c.args.root.now c.args.path.now.items c.args.watched c.args.value c.args.word.now v.items s c.in_ok-sought.ensures.path c.in_ok-sought.ensures.rest
    (subst (λ r. TellsOrigin r s.watched s.path.items s.to s.value c.args.word.now v.items) c.left_by.ensures.same tells)) c.origin_of.ensures.told
