use Rattle.std.proofs.Common.{sym, subst}
use Rattle.page_tree.specs.Rows.{SameRow}
use Rattle.page_tree.specs.Uniforms.{uniform_row}
use Rattle.page_tree.specs.BareRows.{bare_row}
use Rattle.page_tree.specs.BlockRows.{block_row}
use Rattle.page_tree.specs.BlockRefs.{ref_row}
use Rattle.page_tree.proofs.block_ref.BlockRef.is_all.Goals as goal

pub returns-in-Bare-clause-differs : goal.returns-in-Bare-clause-differs
returns-in-Bare-clause-differs c other same =
    let here = subst (λ r. SameRow 64 (uniform_row c.args.permission) (ref_row r)) c.in-Bare.is same in
    c.is_all.ensures.differs other (subst (λ b. SameRow 64 (uniform_row c.args.permission) (bare_row b)) (sym c.deref.ensures) (record { permission = here.permission; byte = here.byte }))

pub returns-in-Shared-clause-differs : goal.returns-in-Shared-clause-differs
returns-in-Shared-clause-differs c other same =
    let here = subst (λ r. SameRow 64 (uniform_row c.args.permission) (ref_row r)) c.in-Shared.is same in
    c.is_all-in-Shared.ensures.differs other (subst (λ b. SameRow 64 (uniform_row c.args.permission) (block_row b)) (sym c.deref-in-Shared.ensures) (record { permission = here.permission; byte = here.byte }))

pub returns-in-Own-clause-differs : goal.returns-in-Own-clause-differs
returns-in-Own-clause-differs c other same =
    let here = subst (λ r. SameRow 64 (uniform_row c.args.permission) (ref_row r)) c.in-Own.is same in
    c.is_all-in-Own.ensures.differs other (subst (λ b. SameRow 64 (uniform_row c.args.permission) (block_row b)) (sym c.deref-in-Own.ensures) (record { permission = here.permission; byte = here.byte }))
