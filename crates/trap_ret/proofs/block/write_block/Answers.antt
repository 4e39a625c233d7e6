use Rattle.std.proofs.Common.{rules}
use Rattle.call_model.proofs.Spelled.{bytes_of_block}
use Rattle.trap_ret.proofs.block.write_block.Goals as goal

pub returns-clause-bytes : goal.returns-clause-bytes
returns-clause-bytes c = bytes_of_block c.spelling.result c.args.block.now c.spelling.ensures.registers (search rules) (search rules) c.spelling.ensures.spells
