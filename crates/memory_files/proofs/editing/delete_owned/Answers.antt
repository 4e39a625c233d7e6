use Rattle.memory_model.specs.Memory.{Memory}
use Rattle.file_model.specs.Operations as operations
use Rattle.space_model.specs.Files.{files_in}
use Rattle.memory_files.proofs.Results.{changed}
use Rattle.memory_files.proofs.editing.delete_owned.Goals as goal

pub returns : goal.returns
returns c = changed c.args.memory.now c.take_headers-files.result.memory c.delete-deleted.new.bytes.memory c.put_back.new.memory (λ (m : Memory). operations.delete (files_in m) c.args.name.now) c.delete-deleted.result c.change_answer.result c.take_headers-files.ensures.memory c.put_back.ensures c.change_answer.ensures c.delete-deleted.ensures.applied c.delete-deleted.ensures.kept.rest
