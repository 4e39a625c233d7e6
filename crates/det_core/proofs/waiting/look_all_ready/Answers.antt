use Rattle.std.proofs.Common.{sym, ap, ◌∙◌, arith}
use Rattle.space_model.specs.Meeting.{awaits}
use Rattle.space_model.specs.Space.{find}
use Rattle.run_model.specs.Schedule.{is_ready, are_ready}
use Rattle.det_core.proofs.Ready.{one_ready, one_waits, all_ready}
use Rattle.det_core.proofs.waiting.look_all_ready.Goals as goal

pub loop-index-preserved : goal.loop-index-preserved
loop-index-preserved c =
    let a = c.get-awaited.result in
    let now = ap (λ cs. is_ready a.reach (find a.number cs)) c.loop-index.invariant.same in
    record {
      ready = one_ready c.awaits-all.result c.loop-index.index a c.args.children.now c.get-awaited.ensures (sym now ∙ sym c.look_ready.ensures.ready ∙ c.if-not-look_ready.false) ∙ c.loop-index.invariant.ready;
      same = c.look_ready.ensures.same ∙ c.loop-index.invariant.same;
    }

pub returns-then-not-look_ready-clause-ready : goal.returns-then-not-look_ready-clause-ready
returns-then-not-look_ready-clause-ready c =
    let cs = c.args.children.now in
    let a = c.get-awaited.result in
    let now = ap (λ ds. is_ready a.reach (find a.number ds)) c.loop-index.invariant.same in
    sym (one_waits c.awaits-all.result c.loop-index.index a cs c.get-awaited.ensures (sym now ∙ sym c.look_ready.ensures.ready ∙ c.if-not-look_ready.true)) ∙ c.loop-index.invariant.ready
    ∙ ap (λ as'. are_ready as' cs) c.awaits-all.ensures

pub returns-clause-ready : goal.returns-clause-ready
returns-clause-ready c =
    let cs = c.args.children.now in
    let end = c.len-index-end.ensures in
    let past = c.loop-index-test.false in
    sym (all_ready c.awaits-all.result c.loop-index.index cs (omega (arith, end, past))) ∙ c.loop-index.invariant.ready
    ∙ ap (λ as'. are_ready as' cs) c.awaits-all.ensures
