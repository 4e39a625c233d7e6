use Rattle.std.proofs.Common.{◌∙◌, ap, length, refl, sym}
use Rattle.memory_model.specs.Memory.{bytes_from}
use Rattle.memory_model.proofs.Runs.{length-bytes_from}
use Rattle.file_model.specs.Operations as operations
use Rattle.space_mem.specs.Held.{Held}
use Rattle.space_mem.proofs.Dirty.{marks_refl}
use Rattle.space_mem.proofs.Kept.{keeps_refl}
use Rattle.space_model.specs.Files.{files_in}
use Rattle.memory_files.proofs.Refusals.{lacking_change, refused_change}
use Rattle.memory_files.proofs.editing.put_named.Goals as goal

pub returns-in-Err : goal.returns-in-Err
returns-in-Err c =
    let part = bytes_from c.args.memory.now.memory c.args.addr c.args.len in
    refused_change c.args.memory.now (operations.put (files_in c.args.memory.now.memory) c.args.name.now part c.args.add) 16 c.in-Err.error (c.in-Err.ensures.put part (length-bytes_from c.args.memory.now.memory c.args.addr c.args.len))

pub put_in-requires-clause-told : goal.put_in-requires-clause-told
put_in-requires-clause-told c =
    sym (c.in-Ok.ensures.put c.deref.result.now (ap length (c.deref.ensures.value ∙ c.in-Ok-bytes.ensures) ∙ length-bytes_from c.args.memory.now.memory c.args.addr c.args.len))

pub returns-in-Err-bytes : goal.returns-in-Err-bytes
returns-in-Err-bytes c =
    let h : Held = c.args.memory.now in
    let part = bytes_from h.memory c.args.addr c.args.len in
    lacking_change h h (operations.put (files_in h.memory) c.args.name.now part c.args.add) 16 c.in-Ok.slot c.in-Err-bytes.error (c.in-Ok.ensures.put part (length-bytes_from h.memory c.args.addr c.args.len)) refl (λ page beside. keeps_refl h page) (marks_refl h)
