use Rattle.file_model.specs.Operations as operations
use Rattle.space_model.specs.Files.{files_in}
use Rattle.memory_files.proofs.Refusals.{lacking_part}
use Rattle.memory_files.proofs.reading.read_named.Goals as goal

pub returns-in-Err : goal.returns-in-Err
returns-in-Err c = lacking_part c.args.memory.now c.args.addr (operations.get (files_in c.args.memory.now.memory) c.args.name.now c.args.offset c.args.count) c.in-Err.error c.in-Err.ensures.wanted
