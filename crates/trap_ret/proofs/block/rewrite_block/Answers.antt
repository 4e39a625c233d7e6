use Rattle.std.proofs.Common.{rules}
use Rattle.call_model.proofs.Words.{same_bytes}
use Rattle.trap_ret.proofs.block.rewrite_block.Goals as goal

pub returns : goal.returns
returns c = same_bytes _ _ c.read_block.result (search rules) (search rules) (search rules) (search rules) c.write_block.ensures.spells c.read_block.ensures
