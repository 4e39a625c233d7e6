use Rattle.std.proofs.Common.{◌∙◌, ap, sym, ◌+◌, ◌-◌, length, get_or, arith}
use Rattle.elf_image.proofs.Bytes.{all_done, nothing_yet, one_more, passed_over}
use Rattle.elf_image.proofs.segments.filled.Goals as goal

pub loop-done-init : goal.loop-done-init
loop-done-init c = record { some = omega arith; most = omega (arith, c.requires); zeros = λ k above below. sym (nothing_yet c.args.loads.now (c.args.start + k)) }

pub loop-done-preserved : goal.loop-done-preserved
loop-done-preserved c =
    let ls = c.args.loads.now in
    let before = c.loop-done.invariant in
    let reach = c.reach.ensures in
    let max = c.max-most.ensures in
    record {
      some = omega (arith, before.some, max);
      most = omega (arith, before.most, reach.most, max);
      zeros = λ k above below.
          let a = c.args.start + k in
          sym (one_more ls c.loop-done.done a _ c.loop-done-test.true)
          ∙ passed_over (get_or ls (length ls - 1 - c.loop-done.done) _) a _ (reach.beyond a (omega (arith, max)) (omega (arith, c.requires)))
          ∙ before.zeros k (omega (arith, max)) below;
    }

pub returns-clause-zeros : goal.returns-clause-zeros
returns-clause-zeros c = λ k above below.
    sym (all_done c.args.loads.now c.loop-done.done (c.args.start + k) (omega arith)) ∙ c.loop-done.invariant.zeros k above below
