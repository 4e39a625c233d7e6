use Rattle.std.proofs.lemmas.List.{get_or-replicate}
use Rattle.page_tree.proofs.bare_block.BareBlock.uniform.Goals as goal

pub returns : goal.returns
returns c j below = get_or-replicate 64 j c.args.permission 0 below
