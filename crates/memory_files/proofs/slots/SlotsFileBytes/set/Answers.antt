use Rattle.memory_files.proofs.Writes.{byte_written}
use Rattle.memory_files.proofs.slots.SlotsFileBytes.set.Goals as goal

pub returns-clause-bytes : goal.returns-clause-bytes
returns-clause-bytes c a = byte_written c.args.self.now.memory c.write.new.self.memory c.args.offset c.args.value a c.write.ensures.memory
