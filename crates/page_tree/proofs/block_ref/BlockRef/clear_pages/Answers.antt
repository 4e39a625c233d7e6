use Rattle.std.proofs.Common.{sym, subst, None}
use Rattle.page_tree.specs.Blocks.{AreWhole, IsWhole, page_in, within}
use Rattle.page_tree.specs.BlockRefs.{AreWholeIn}
use Rattle.page_tree.proofs.Spread.{whole_either}
use Rattle.page_tree.proofs.block_ref.BlockRef.clear_pages.Goals as goal

pub returns-in-Own-clause-whole : goal.returns-in-Own-clause-whole
returns-in-Own-clause-whole c whole j low =
    let block = c.deref_mut.result.now in
    subst IsWhole (sym (c.clear.ensures.pages j)) (whole_either (within c.args.from c.args.to j) None (page_in block j) tt (subst AreWhole (sym c.deref_mut.ensures.value) (subst AreWholeIn c.in-Own.is whole) j low))
