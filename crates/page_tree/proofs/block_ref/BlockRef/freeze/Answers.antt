use Rattle.std.proofs.Common.{sym, subst}
use Rattle.page_tree.specs.Blocks.{AreWhole}
use Rattle.page_tree.specs.BlockRefs.{AreWholeIn}
use Rattle.page_tree.proofs.block_ref.BlockRef.freeze.Goals as goal

pub returns-in_err-frozen-clause-whole : goal.returns-in_err-frozen-clause-whole
returns-in_err-frozen-clause-whole c whole = c.in_err-frozen.ensures.still (subst AreWhole (sym c.deref_mut.ensures.value) (subst AreWholeIn c.in-Own.is whole))

pub returns-in_ok-frozen-clause-whole : goal.returns-in_ok-frozen-clause-whole
returns-in_ok-frozen-clause-whole c whole = c.in_ok-frozen.ensures.whole (subst AreWhole (sym c.deref_mut.ensures.value) (subst AreWholeIn c.in-Own.is whole))
