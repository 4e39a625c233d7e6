use Rattle.memory_files.proofs.Bases.{based}
use Rattle.memory_files.proofs.Results.{rest_kept}
use Rattle.memory_files.proofs.basing.mark_owned.Goals as goal

pub returns-clause-memory : goal.returns-clause-memory
returns-clause-memory c = based c.args.memory.now c.take_headers-files.result.memory c.mark_base.new.bytes.memory c.put_back.new.memory c.take_headers-files.ensures.memory c.put_back.ensures c.mark_base.ensures.bytes c.mark_base.ensures.kept.rest

pub returns-clause-kept : goal.returns-clause-kept
returns-clause-kept c = rest_kept c.args.memory.now c.take_headers-files.result.memory c.mark_base.new.bytes.memory c.put_back.new.memory c.take_headers-files.ensures.memory c.put_back.ensures c.mark_base.ensures.kept.rest
