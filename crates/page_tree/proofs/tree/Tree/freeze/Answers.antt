use Rattle.std.specs.Prelude.{◌≡◌, ◌+◌, ◌<◌, ◌/◌, ◌%◌, length}
use Rattle.std.proofs.Common.{◌∙◌, arith, sym, subst, get_or}
use Rattle.std.proofs.lemmas.List.{get_or_default, length-set}
use Rattle.page_tree.specs.declared.branch_ref.BranchRef.TheVariants.{Uniform}
use Rattle.page_tree.specs.BranchRefs.{SameLimb, NoneOwnLimb, AreWholeLimb}
use Rattle.page_tree.specs.Trees.{branch_at}
use Rattle.page_tree.proofs.Spread.{each_set}
use Rattle.page_tree.proofs.Limbs.{same_more, less_set}
use Rattle.page_tree.proofs.tree.Tree.freeze.Goals as goal

pub loop-i-preserved : goal.loop-i-preserved
loop-i-preserved c =
    let bs = c.loop-i.self.branches in
    let i = c.loop-i.i in
    let d = c.index-self-i.result in
    let s = c.freeze.new.self in
    let old = c.args.self.now in
    let inv = c.loop-i.invariant in
    let made = c.in_ok-freeze.ensures in
    let inside : i < length bs = omega (arith, inv.sized, c.loop-i-test.true) in
    let was : get_or bs i d ≡ get_or bs i (Uniform 0) = get_or_default bs i d (Uniform 0) inside in
    record {
      sized = length-set bs i s ∙ inv.sized;
      same = each_set (λ k r. SameLimb (branch_at old k) r) bs i s (Uniform 0) inside (λ k ne. inv.same k) (same_more _ _ _ (inv.same i) (subst (λ r. SameLimb r s) was made.same));
      none = each_set (λ k r. k < i + 1 → NoneOwnLimb r) bs i s (Uniform 0) inside (λ k ne low. inv.none k (omega (arith, ne))) (λ low. made.none);
      less = less_set old bs i d s inside inv.less made.less;
      whole = λ given. each_set (λ k r. k < 128 → AreWholeLimb r) bs i s (Uniform 0) inside (λ k ne low. inv.whole given k low) (λ low. made.whole (subst AreWholeLimb (sym was) (inv.whole given i low)));
    }

pub returns-in_err-freeze-clause-less : goal.returns-in_err-freeze-clause-less
returns-in_err-freeze-clause-less c j low =
    let inv = c.loop-i.invariant in
    less_set c.args.self.now c.loop-i.self.branches c.loop-i.i c.index-self-i.result c.freeze.new.self (omega (arith, inv.sized, c.loop-i-test.true)) inv.less c.freeze.ensures.less (j / 8192) (j % 8192) (omega arith)
