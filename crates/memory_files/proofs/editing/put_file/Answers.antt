use Rattle.std.proofs.Common.{◌∙◌, sym}
use Rattle.memory_model.specs.Memory.{Memory, bytes_from}
use Rattle.file_model.specs.Operations as operations
use Rattle.space_model.specs.Files.{files_in}
use Rattle.memory_files.proofs.Refusals.{no_put, no_name, unnamed_change}
use Rattle.memory_files.proofs.editing.put_file.Goals as goal

pub returns-then-not-is_short : goal.returns-then-not-is_short
returns-then-not-is_short c =
    let m : Memory = c.args.memory.now.memory in
    let name = bytes_from m c.args.name c.args.name_len in
    let none = no_name m c.args.name c.args.name_len (sym c.is_short.ensures ∙ c.if-not-is_short.true) in
    let part = bytes_from m c.args.addr c.args.len in
    unnamed_change c.args.memory.now (operations.put (files_in m) name part c.args.add) 16 (no_put (files_in m) name part c.args.add none)
