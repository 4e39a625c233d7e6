use Rattle.std.proofs.Common.{sym, ap, ◌∙◌, arith}
use Rattle.space_model.specs.Meeting.{awaits}
use Rattle.run_model.specs.Schedule.{are_ready}
use Rattle.det_core.proofs.Ready.{one_ready, one_waits, all_ready}
use Rattle.det_core.proofs.enabling.are_ready.Goals as goal

pub loop-index-preserved : goal.loop-index-preserved
loop-index-preserved c =
    one_ready c.awaits-all.result c.loop-index.index c.get-awaited.result c.args.children.now c.get-awaited.ensures (sym c.is_ready.ensures ∙ c.if-not-is_ready.false) ∙ c.loop-index.invariant

pub returns-then-not-is_ready : goal.returns-then-not-is_ready
returns-then-not-is_ready c =
    let cs = c.args.children.now in
    sym (one_waits c.awaits-all.result c.loop-index.index c.get-awaited.result cs c.get-awaited.ensures (sym c.is_ready.ensures ∙ c.if-not-is_ready.true)) ∙ c.loop-index.invariant
    ∙ ap (λ as'. are_ready as' cs) c.awaits-all.ensures

pub returns : goal.returns
returns c =
    let cs = c.args.children.now in
    let end = c.len-index-end.ensures in
    let past = c.loop-index-test.false in
    sym (all_ready c.awaits-all.result c.loop-index.index cs (omega (arith, end, past))) ∙ c.loop-index.invariant
    ∙ ap (λ as'. are_ready as' cs) c.awaits-all.ensures
