use Rattle.std.proofs.lemmas.Result.{IfOk-weaker}
use Rattle.std.specs.Prelude.{option_map}
use Rattle.explain_core.specs.Watch.{noted_of}
use Rattle.explain_why.proofs.Origins.{sought_left, sought_told}
use Rattle.explain_why.proofs.origin.changed_origin.Goals as goal

pub origin_of-requires-clause-left : goal.origin_of-requires-clause-left
origin_of-requires-clause-left c =
    let rest = c.in_ok-sought.ensures.rest in
    sought_left c.args.root.now c.args.path.now.items c.args.watched c.in_ok-sought.sought (option_map noted_of c.args.change) (option_map noted_of c.where_left-left.result) c.in_ok-sought.ensures.path rest.0 rest.1 c.requires.change c.where_left-left.ensures

pub returns-clause-told : goal.returns-clause-told
returns-clause-told c =
    IfOk-weaker c.origin_of.result _ _
    (λ v tells. sought_told c.args.root.now c.args.path.now.items c.args.watched c.args.value c.args.word.now v.items c.in_ok-sought.sought c.in_ok-sought.ensures.path c.in_ok-sought.ensures.rest tells) c.origin_of.ensures.told
