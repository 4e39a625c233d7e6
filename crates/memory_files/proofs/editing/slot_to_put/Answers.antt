use Rattle.memory_model.specs.Memory.{Memory}
use Rattle.file_model.specs.Operations as operations
use Rattle.space_mem.specs.Held.{Held}
use Rattle.space_model.specs.Files.{file_bytes, files_in}
use Rattle.memory_files.specs.Files.{held_in}
use Rattle.memory_files.proofs.Refusals.{told_put, told_slot}
use Rattle.memory_files.proofs.editing.slot_to_put.Goals as goal

pub returns-clause-put : goal.returns-clause-put
returns-clause-put c part long =
    let m : Held = held_in c.new.result in
    let r : Memory → _ = λ (m : Memory). operations.put (files_in m) c.args.name.now part c.args.add in
    told_slot c.args.memory.now m r c.put_slot.result c.new.ensures (told_put (file_bytes m.memory) part c.args.add (r m.memory) c.put_slot.result (c.put_slot.ensures.put part long))
