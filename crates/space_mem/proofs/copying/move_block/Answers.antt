use Rattle.space_mem.proofs.Copies.{block_permission, block_bytes}
use Rattle.space_mem.proofs.copying.move_block.Goals as goal

pub returns-clause-here : goal.returns-clause-here
returns-clause-here c = block_permission c.args.source.now c.prepare.new.self c.put_block.new.self c.args.at c.args.to c.in_ok-block.block c.requires.at c.requires.to c.requires.within c.in_ok-block.ensures.same c.put_block.ensures.put

pub returns-clause-bytes : goal.returns-clause-bytes
returns-clause-bytes c = block_bytes c.args.source.now c.prepare.new.self c.put_block.new.self c.args.at c.args.to c.in_ok-block.block c.requires.at c.requires.to c.requires.within c.in_ok-block.ensures.same c.put_block.ensures.put
