use Rattle.std.proofs.Common.{sym, subst, nat_eq}
use Rattle.page_tree.specs.Blocks.{AreWhole, IsWhole, page_in}
use Rattle.page_tree.specs.BlockRefs.{AreWholeIn}
use Rattle.page_tree.proofs.Spread.{whole_either}
use Rattle.page_tree.proofs.block_ref.BlockRef.replace.Goals as goal

pub returns-in-Own-clause-whole : goal.returns-in-Own-clause-whole
returns-in-Own-clause-whole c kept whole j low =
    let block = c.deref_mut.result.now in
    subst IsWhole (sym (c.replace.ensures.pages j)) (whole_either (nat_eq j c.args.page) c.args.kept (page_in block j) kept (subst AreWhole (sym c.deref_mut.ensures.value) (subst AreWholeIn c.in-Own.is whole) j low))

pub returns-in-Own-clause-given : goal.returns-in-Own-clause-given
returns-in-Own-clause-given c whole =
    subst IsWhole (sym c.replace.ensures.was) (subst AreWhole (sym c.deref_mut.ensures.value) (subst AreWholeIn c.in-Own.is whole) c.args.page c.requires.within)
