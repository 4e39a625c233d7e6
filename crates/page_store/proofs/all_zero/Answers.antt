use Rattle.std.proofs.Common.{◌≡◌, arith, below_more, slice_index_or, bit_or, ◌∙◌, ap}
use Rattle.std.proofs.lemmas.Nat.{le_or_l, le_or_r}
use Rattle.std.specs.Int.Bits.{or_zero_l}
use Rattle.page_store.proofs.all_zero.Goals as goal

pub loop-byte-preserved : goal.loop-byte-preserved
loop-byte-preserved c =
    let joined = c.loop-byte.joined in
    let byte = slice_index_or c.args.bytes.now c.loop-byte.byte-index 0 in
    record {
      only = λ zero. below_more _ _ (c.loop-byte.invariant.only (omega (arith, le_or_l joined byte))) (omega (arith, le_or_r joined byte));
      all = λ every.
          let before : joined ≡ 0 = c.loop-byte.invariant.all (λ k below. every k (omega arith)) in
          let here : byte ≡ 0 = every c.loop-byte.byte-index (omega arith) in
          ap (λ n. bit_or n byte) before ∙ or_zero_l byte ∙ here;
    }
