use Rattle.std.proofs.Common.{◌∙◌, sym}
use Rattle.memory_model.specs.Memory.{Memory, bytes_from}
use Rattle.file_model.specs.declared.FileError.TheVariants.{BadName}
use Rattle.file_model.specs.Operations as operations
use Rattle.space_model.specs.Files.{files_in}
use Rattle.memory_files.proofs.Refusals.{no_get, no_name, refused_part}
use Rattle.memory_files.proofs.reading.read_file.Goals as goal

pub returns-then-not-is_short : goal.returns-then-not-is_short
returns-then-not-is_short c =
    let m : Memory = c.args.memory.now.memory in
    let name = bytes_from m c.args.name c.args.name_len in
    let none = no_name m c.args.name c.args.name_len (sym c.is_short.ensures ∙ c.if-not-is_short.true) in
    refused_part c.args.memory.now c.args.addr (operations.get (files_in m) name c.args.offset c.args.count) BadName (no_get (files_in m) name c.args.offset c.args.count none)
