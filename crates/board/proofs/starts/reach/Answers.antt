use Rattle.std.proofs.Common.{refl, ap, ◌∙◌, arith}
use Rattle.std.proofs.lemmas.Bool.Decides.{nat_tests}
use Rattle.board.specs.Names.{named_at}
use Rattle.board.proofs.Ways.{on_err}
use Rattle.board.proofs.Places.{named_pushed, named_beyond}
use Rattle.board.proofs.starts.reach.Goals as goal

pub loop-starts-init : goal.loop-starts-init
loop-starts-init g c = λ other. refl

pub loop-starts-smaller : goal.loop-starts-smaller
loop-starts-smaller g c =
    let more = c.in_ok-push.ensures.len in
    let here = c.loop-starts-test.true in
    let len = c.len.ensures in
    grind (arith, nat_tests)

pub loop-starts-preserved : goal.loop-starts-preserved
loop-starts-preserved g c = λ other. ap (λ names. named_at names other) c.in_ok-push.ensures.items ∙ (named_pushed c.loop-starts.starts.items other ∙ c.loop-starts.invariant other)

pub returns-in_err-push-clause-same : goal.returns-in_err-push-clause-same
returns-in_err-push-clause-same g c = λ other. ap (λ names. named_at names other) c.in_err-push.ensures.items ∙ c.loop-starts.invariant other

pub returns-in_err-push-clause-none : goal.returns-in_err-push-clause-none
returns-in_err-push-clause-none g c =
    let here = c.loop-starts-test.true in
    let len = c.len.ensures in
    let all = c.loop-starts.starts.ok in
    on_err c.from_residual.result _ (ap (λ names. named_at names c.args.slot) c.in_err-push.ensures.items ∙ named_beyond c.loop-starts.starts.items c.args.slot (grind (arith, nat_tests)))

pub returns-clause-same : goal.returns-clause-same
returns-clause-same g c = c.loop-starts.invariant
