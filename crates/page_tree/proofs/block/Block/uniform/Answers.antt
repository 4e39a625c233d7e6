use Rattle.std.proofs.lemmas.List.{get_or-replicate}
use Rattle.page_tree.proofs.block.Block.uniform.Goals as goal

pub returns-clause-permissions : goal.returns-clause-permissions
returns-clause-permissions c j below = get_or-replicate 64 j c.args.permission 0 below
