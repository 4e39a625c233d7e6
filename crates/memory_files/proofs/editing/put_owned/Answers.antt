use Rattle.memory_model.specs.Memory.{Memory}
use Rattle.file_model.specs.Operations as operations
use Rattle.space_model.specs.Files.{files_in}
use Rattle.memory_files.proofs.Results.{changed}
use Rattle.memory_files.proofs.editing.put_owned.Goals as goal

pub returns : goal.returns
returns c = changed c.args.memory.now c.take-files.result.memory c.put-written.new.bytes.memory c.put_back.new.memory (λ (m : Memory). operations.put (files_in m) c.args.name.now c.args.part.now c.args.add) c.put-written.result c.change_answer.result c.take-files.ensures.memory c.put_back.ensures c.change_answer.ensures c.put-written.ensures.applied c.put-written.ensures.kept.rest
