use Rattle.std.proofs.Common.{replicate, false}
use Rattle.memory_files.proofs.Owned.{none_owned, one_owned}
use Rattle.memory_files.proofs.owning.own_slot.Goals as goal

pub returns-clause-owned : goal.returns-clause-owned
returns-clause-owned c = c.in_ok-own_if.ensures.owned (none_owned c.args.memory.now c.args.count)

pub returns-clause-slots : goal.returns-clause-slots
returns-clause-slots c = one_owned (replicate 64 false) c.own_if.new.slots c.args.slot c.requires.slot c.in_ok-own_if.ensures.slots
