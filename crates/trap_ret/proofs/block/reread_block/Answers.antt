use Rattle.std.proofs.Common.{rules}
use Rattle.call_model.proofs.Words.{same_block}
use Rattle.trap_ret.proofs.block.reread_block.Goals as goal

pub returns : goal.returns
returns c = same_block c.write_block.result _ _ (search rules) (search rules) c.read_block.ensures c.write_block.ensures.spells
