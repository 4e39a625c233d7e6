use Rattle.file_model.specs.Operations as operations
use Rattle.space_model.specs.Files.{files_in}
use Rattle.memory_files.proofs.Refusals.{refused_change}
use Rattle.memory_files.proofs.editing.create_named.Goals as goal

pub returns-in-Err : goal.returns-in-Err
returns-in-Err c = refused_change c.args.memory.now (operations.create (files_in c.args.memory.now.memory) c.args.name.now c.args.append) 1 c.in-Err.error (c.in-Err.ensures.create c.args.append)
