use Rattle.memory_model.specs.Memory.{Memory}
use Rattle.file_model.specs.Operations as operations
use Rattle.space_model.specs.Files.{files_in}
use Rattle.memory_files.specs.Files.{held_in}
use Rattle.memory_files.proofs.Refusals.{told_slot}
use Rattle.memory_files.proofs.editing.slot_to_make.Goals as goal

pub returns-clause-create : goal.returns-clause-create
returns-clause-create c append = told_slot c.args.memory.now (held_in c.new.result) (λ (m : Memory). operations.create (files_in m) c.args.name.now append) c.create_slot.result c.new.ensures (c.create_slot.ensures.create append)
