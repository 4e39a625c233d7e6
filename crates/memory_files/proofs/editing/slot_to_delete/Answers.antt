use Rattle.memory_model.specs.Memory.{Memory}
use Rattle.file_model.specs.Operations as operations
use Rattle.space_mem.specs.Held.{Held}
use Rattle.space_model.specs.Files.{file_bytes, files_in}
use Rattle.memory_files.specs.Files.{held_in}
use Rattle.memory_files.proofs.Refusals.{told_delete, told_slot}
use Rattle.memory_files.proofs.editing.slot_to_delete.Goals as goal

pub returns-clause-delete : goal.returns-clause-delete
returns-clause-delete c =
    let m : Held = held_in c.new.result in
    told_slot c.args.memory.now m (λ (k : Memory). operations.delete (files_in k) c.args.name.now) c.present.result c.new.ensures (told_delete (files_in m.memory) c.args.name.now (file_bytes m.memory) c.present.result c.present.ensures.present)
