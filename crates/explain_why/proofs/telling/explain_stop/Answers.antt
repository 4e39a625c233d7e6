use Rattle.std.proofs.Common.{◌≡◌, true, ap, subst, rules}
use Rattle.std.proofs.lemmas.Result.{IfOk-weaker}
use Rattle.space_model.specs.Space.{Top}
use Rattle.space_model.specs.Stop.{is_stopped}
use Rattle.explain_why.specs.declared.telling.Ending.TheVariants.{Quiet, Conflicting, Trapped}
use Rattle.explain_why.proofs.Spaces.{stop_as, trap_stopped}
use Rattle.explain_why.proofs.telling.explain_stop.Goals as goal

pub returns-in-Quiet-clause-told : goal.returns-in-Quiet-clause-told
returns-in-Quiet-clause-told c =
    stop_as c.args.root.now c.args.end.now c.args.path.now.items c.args.top.now c.top.inside.status Quiet c.new.result.items (ap (λ (t : Top). t.status) c.top.view_is) c.in-Quiet.ensures (search rules)

pub returns-in-Conflicting-clause-told : goal.returns-in-Conflicting-clause-told
returns-in-Conflicting-clause-told c =
    IfOk-weaker c.explain_conflict.result _ _
    (λ v told. stop_as c.args.root.now c.args.end.now c.args.path.now.items c.args.top.now c.top.inside.status (Conflicting c.in-Conflicting.address) v.items (ap (λ (t : Top). t.status) c.top.view_is) c.in-Conflicting.ensures told) c.explain_conflict.ensures.told

pub explain_trap-requires-clause-stopped : goal.explain_trap-requires-clause-stopped
explain_trap-requires-clause-stopped c =
    subst (λ s. is_stopped s ≡ true) (ap (λ (t : Top). t.status) c.top.view_is) (trap_stopped c.top.inside.status c.in-Trapped.ensures)

pub returns-in-Trapped-clause-told : goal.returns-in-Trapped-clause-told
returns-in-Trapped-clause-told c =
    IfOk-weaker c.explain_trap.result _ _
    (λ v told. stop_as c.args.root.now c.args.end.now c.args.path.now.items c.args.top.now c.top.inside.status Trapped v.items (ap (λ (t : Top). t.status) c.top.view_is) c.in-Trapped.ensures told) c.explain_trap.ensures.told
