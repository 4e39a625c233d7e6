use Rattle.std.proofs.Common.{sym, subst}
use Rattle.page_tree.specs.Rows.{SameRow}
use Rattle.page_tree.specs.BareRows.{bare_row}
use Rattle.page_tree.specs.BlockRows.{block_row}
use Rattle.page_tree.specs.BlockRefs.{ref_row}
use Rattle.page_tree.proofs.block_ref.BlockRef.same_as_bare.Goals as goal

pub returns-in-Shared-clause-differs : goal.returns-in-Shared-clause-differs
returns-in-Shared-clause-differs c other same =
    let here = subst (λ r. SameRow 64 (bare_row c.args.bare.now) (ref_row r)) c.in-Shared.is same in
    c.is_like_bare.ensures.differs other (subst (λ b. SameRow 64 (bare_row c.args.bare.now) (block_row b)) (sym c.deref-in-Shared.ensures) (record { permission = here.permission; byte = here.byte }))

pub returns-in-Own-clause-differs : goal.returns-in-Own-clause-differs
returns-in-Own-clause-differs c other same =
    let here = subst (λ r. SameRow 64 (bare_row c.args.bare.now) (ref_row r)) c.in-Own.is same in
    c.is_like_bare-in-Own.ensures.differs other (subst (λ b. SameRow 64 (bare_row c.args.bare.now) (block_row b)) (sym c.deref-in-Own.ensures) (record { permission = here.permission; byte = here.byte }))
