use Rattle.std.proofs.Common.{subst}
use Rattle.page_tree.specs.BlockRefs.{AreWholeIn}
use Rattle.page_tree.proofs.block_ref.BlockRef.loosen.Goals as goal

pub returns-in_err-block-in-Shared-clause-whole : goal.returns-in_err-block-in-Shared-clause-whole
returns-in_err-block-in-Shared-clause-whole c whole = subst AreWholeIn c.in-Shared.is whole
