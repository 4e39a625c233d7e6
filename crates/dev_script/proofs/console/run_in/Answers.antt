use Rattle.std.proofs.Common.{◌≡◌, ◌+◌, ◌-◌, ◌≤◌, ◌++◌, length, drop, get_or, ap, sym, ◌∙◌, arith, subst}
use Rattle.dev_script.specs.Pieces.{bytes_in}
use Rattle.dev_script.proofs.Runs.{run_past, items_of}
use Rattle.dev_script.proofs.console.run_in.Goals as goal

pub loop-i-preserved : goal.loop-i-preserved
loop-i-preserved c =
    let ps = c.args.pieces.now in
    let tail = c.args.tail.now in
    let d = c.index-pieces-i.result in
    let i = c.loop-i.i in
    let inner = c.loop-i.inner in
    let from = drop c.args.at (bytes_in ps ++ tail) in
    let same : c.as_slice-piece.result.now ≡ items_of (get_or ps i d) = c.as_slice-piece.ensures.value ∙ ap (λ v. v.items) c.deref.ensures ∙ ap items_of c.index-pieces-i.is in
    let past : length (items_of (get_or ps i d)) ≤ inner = omega (arith, ap length same, c.if-inner-piece.false) in
    subst (λ xs. from ≡ drop (inner - length xs) (bytes_in (drop (i + 1) ps) ++ tail)) (sym same) (run_past ps tail from i inner d c.loop-i-test.true c.loop-i.invariant past)
