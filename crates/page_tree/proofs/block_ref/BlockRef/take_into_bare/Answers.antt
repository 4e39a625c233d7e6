use Rattle.std.proofs.Common.{sym, subst, None}
use Rattle.page_tree.specs.Blocks.{AreWhole, IsWhole, page_in, within}
use Rattle.page_tree.specs.BlockRefs.{AreWholeIn, ref_page}
use Rattle.page_tree.proofs.Spread.{whole_either}
use Rattle.page_tree.proofs.block_ref.BlockRef.take_into_bare.Goals as goal

pub returns-in-Own-clause-whole : goal.returns-in-Own-clause-whole
returns-in-Own-clause-whole c other j low =
    let theirs = c.deref_mut-in-Own.result.now in
    subst (λ r. IsWhole (ref_page r j)) (sym c.replace.ensures.value)
    (subst IsWhole (sym (c.lay_into.ensures.pages j low)) (whole_either (within c.args.from c.args.to j) (page_in theirs j) None (subst AreWhole (sym c.deref_mut-in-Own.ensures.value) (subst AreWholeIn c.in-Own.is other) j low) tt))
