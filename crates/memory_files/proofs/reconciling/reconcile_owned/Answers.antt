use Rattle.memory_files.specs.Files.{held_in}
use Rattle.memory_files.proofs.Parents.{taken_over}
use Rattle.memory_files.proofs.Results.{rest_kept}
use Rattle.memory_files.proofs.reconciling.reconcile_owned.Goals as goal

pub returns-clause-memory : goal.returns-clause-memory
returns-clause-memory c =
    taken_over c.args.parent.now c.take_parts-files.result.memory c.reconcile-left_out.new.parent.memory c.put_back.new.memory c.args.child.now (held_in c.new.result) c.take_parts-files.ensures.memory c.new.ensures c.put_back.ensures c.reconcile-left_out.ensures.bytes
    c.reconcile-left_out.ensures.kept.rest

pub returns-clause-kept : goal.returns-clause-kept
returns-clause-kept c = rest_kept c.args.parent.now c.take_parts-files.result.memory c.reconcile-left_out.new.parent.memory c.put_back.new.memory c.take_parts-files.ensures.memory c.put_back.ensures c.reconcile-left_out.ensures.kept.rest
