use Rattle.std.proofs.Common.{sym, subst}
use Rattle.page_tree.specs.Blocks.{AreWhole}
use Rattle.page_tree.specs.BlockRefs.{AreWholeIn}
use Rattle.page_tree.proofs.block_ref.BlockRef.share.Goals as goal

pub returns-in_ok-try_clone-in-Shared-clause-whole : goal.returns-in_ok-try_clone-in-Shared-clause-whole
returns-in_ok-try_clone-in-Shared-clause-whole c whole = subst AreWhole (sym c.in_ok-try_clone-in-Shared.ensures) (subst AreWholeIn c.in-Shared.is whole)
