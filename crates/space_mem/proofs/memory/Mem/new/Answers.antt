use Rattle.space_mem.proofs.Updates.{held_of-new}
use Rattle.space_mem.proofs.memory.Mem.new.Goals as goal

pub returns : goal.returns
returns c = held_of-new c.none.result c.none.ensures.none
