use Rattle.std.proofs.Common.{sym, subst}
use Rattle.page_tree.specs.Blocks.{AreWhole, IsWhole, page_in, within}
use Rattle.page_tree.specs.BlockRefs.{AreWholeIn}
use Rattle.page_tree.proofs.Spread.{whole_either}
use Rattle.page_tree.proofs.block.Block.take_out_of.Goals as goal

pub returns-in-Own-clause-whole : goal.returns-in-Own-clause-whole
returns-in-Own-clause-whole c whole other j low =
    let theirs = c.deref_mut.result.now in
    subst IsWhole (sym (c.take.ensures.pages j)) (whole_either (within c.args.from c.args.to j) (page_in theirs j) (page_in c.args.self.now j)
    (subst AreWhole (sym c.deref_mut.ensures.value) (subst AreWholeIn c.in-Own.is other) j low)
    (whole j low))
