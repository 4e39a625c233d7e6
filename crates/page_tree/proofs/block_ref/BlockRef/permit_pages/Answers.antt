use Rattle.std.proofs.Common.{sym, subst, slice_index_or, None}
use Rattle.page_tree.specs.Blocks.{AreWhole, IsWhole}
use Rattle.page_tree.specs.BlockRefs.{AreWholeIn}
use Rattle.page_tree.proofs.block_ref.BlockRef.permit_pages.Goals as goal

pub returns-in-Own-clause-whole : goal.returns-in-Own-clause-whole
returns-in-Own-clause-whole c whole j low =
    subst (λ ps. IsWhole (slice_index_or ps j None)) (sym c.permit-in-Own.ensures.pages) (subst AreWhole (sym c.deref_mut-in-Own.ensures.value) (subst AreWholeIn c.in-Own.is whole) j low)
