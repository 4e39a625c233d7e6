use Rattle.memory_files.specs.Files.{held_in}
use Rattle.std.proofs.Common.{◌≡◌, Ok}
use Rattle.file_model.specs.Operations.{length_of}
use Rattle.space_model.specs.Files.{files_in}
use Rattle.space_mem.proofs.Updates.{at_error}
use Rattle.memory_files.proofs.Contents.{length_known, get_found, get_long}
use Rattle.memory_files.proofs.reading.part_of.Goals as goal

pub read_part-requires : goal.read_part-requires
read_part-requires c =
    let known : length_of (files_in c.args.memory.now.memory) c.args.name.now ≡ Ok c.in-Ok.length = length_known c.args.memory.now (held_in c.new.result) c.args.name.now c.len.result (Ok c.in-Ok.length) c.new.ensures c.len.ensures c.in-Ok.is in
    get_long (files_in c.args.memory.now.memory) c.args.name.now c.args.offset c.args.count c.in-Ok.length c.count_from-count.result known c.count_from-count.ensures

pub returns-in_err-part-in-Ok-clause-wanted : goal.returns-in_err-part-in-Ok-clause-wanted
returns-in_err-part-in-Ok-clause-wanted c =
    let known : length_of (files_in c.args.memory.now.memory) c.args.name.now ≡ Ok c.in-Ok.length = length_known c.args.memory.now (held_in c.new.result) c.args.name.now c.len.result (Ok c.in-Ok.length) c.new.ensures c.len.ensures c.in-Ok.is in
    at_error c.from_residual.result _ (get_found (files_in c.args.memory.now.memory) c.args.name.now c.args.offset c.args.count c.in-Ok.length known)
