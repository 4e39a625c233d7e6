use Rattle.std.proofs.Common.{◌≡◌, arith, inl, inr, ap, ◌∙◌, sym, subst}
use Rattle.std.proofs.lemmas.Bool.{cases_eq}
use Rattle.page_tree.specs.Blocks.{page_in, is_own_in, byte_in, IsWhole}
use Rattle.page_tree.specs.Kept.{slot_in}
use Rattle.page_tree.proofs.block.Block.share.Goals as goal

pub loop-j-preserved : goal.loop-j-preserved
loop-j-preserved c =
    let j = c.loop-j.j in
    let inv = c.loop-j.invariant in
    let made = c.in_ok-copy.ensures in
    let same = c.replace.ensures.here in
    let other = c.replace.ensures.other in
    record {
      byte = λ i k below. elim (cases_eq i j) [
        | inl here ↦ subst (λ n. byte_in (slot_in c.replace.new.self n) k ≡ byte_in (page_in c.args.self.now n) k) (sym here) (ap (λ o. byte_in o k) same ∙ made.bytes k)
        | inr there ↦ ap (λ o. byte_in o k) (other i there) ∙ inv.byte i k (omega (arith, there))
      ];
      own = λ i below. elim (cases_eq i j) [
        | inl here ↦ subst (λ n. is_own_in (slot_in c.replace.new.self n) ≡ is_own_in (page_in c.args.self.now n)) (sym here) (ap is_own_in same ∙ made.own)
        | inr there ↦ ap is_own_in (other i there) ∙ inv.own i (omega (arith, there))
      ];
      whole = λ i below. elim (cases_eq i j) [
        | inl here ↦ subst (λ n. IsWhole (slot_in c.replace.new.self n)) (sym here) (subst IsWhole (sym same) made.whole)
        | inr there ↦ subst IsWhole (sym (other i there)) (inv.whole i (omega (arith, there)))
      ];
    }
