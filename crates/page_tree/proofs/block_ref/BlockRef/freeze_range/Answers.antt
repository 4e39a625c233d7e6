use Rattle.std.proofs.Common.{sym, subst}
use Rattle.page_tree.specs.Blocks.{AreWhole}
use Rattle.page_tree.specs.BlockRefs.{AreWholeIn}
use Rattle.page_tree.proofs.block_ref.BlockRef.freeze_range.Goals as goal

pub returns-in-Own-clause-whole : goal.returns-in-Own-clause-whole
returns-in-Own-clause-whole c whole = c.freeze_range.ensures.whole (subst AreWhole (sym c.deref_mut.ensures.value) (subst AreWholeIn c.in-Own.is whole))
