use Rattle.std.proofs.Common.{◌≡◌, sym, subst}
use Rattle.space_model.specs.Space.{Top}
use Rattle.space_model.specs.Change.{after_spending}
use Rattle.space_model.specs.Event.{Follows}
use Rattle.space_step.specs.Stretch.{Executes}
use Rattle.space_step.proofs.Following.{stretch_follows, reached, pays_for_part}
use Rattle.space_step.proofs.running.execute_paid.Goals as goal

pub returns-clause-follows : goal.returns-clause-follows
returns-clause-follows g c = λ levels.
    let n = c.execute-stretch.result.count in
    let r = c.execute-stretch.new.registers in
    let m = c.execute-stretch.new.memory.memory in
    let done = subst (λ (t : Top). Executes n t.registers t.memory r m) c.top.view_is c.execute-stretch.ensures.done in
    let paid = subst (λ (t : Top). c.pay.new.self ≡ after_spending n t (reached t r m)) c.top.view_is c.pay.ensures in
    subst (Follows levels n c.args.top.now) (sym paid)
    (stretch_follows levels n c.args.top.now r m c.requires.running (pays_for_part _ _ c.args.top.now c.execute-stretch.ensures.within c.requires.pays) done)
