use Rattle.std.proofs.Common.{◌∙◌, ap, ◌+◌, ◌-◌, length, get_or, arith}
use Rattle.elf_image.proofs.Bytes.{over, one_more}
use Rattle.elf_image.proofs.segments.overlay_all.Goals as goal

pub loop-done-preserved : goal.loop-done-preserved
loop-done-preserved c =
    let ls = c.args.loads.now in
    record {
      len = omega (arith, c.overlay.ensures.len, c.loop-done.invariant.len);
      bytes = λ k lt. c.overlay.ensures.bytes k (omega (arith, c.loop-done.invariant.len)) ∙ ap (over (get_or ls (length ls - 1 - c.loop-done.done) _) (c.args.start + k)) (c.loop-done.invariant.bytes k lt) ∙ one_more ls c.loop-done.done (c.args.start + k) _ c.loop-done-test.true;
    }
