use Rattle.std.proofs.Common.{Some, subst, ap, ◌∙◌}
use Rattle.snapshot.specs.Faults.{MayFail}
use Rattle.user_runtime.proofs.Joins.{no_conflict, one_conflict, shared_merged}
use Rattle.user_runtime.proofs.joining.merge_shared.Goals as goal

pub returns-in-Ok-clause-refusal : goal.returns-in-Ok-clause-refusal
returns-in-Ok-clause-refusal c =
    no_conflict c.args.snapshot.now.memory c.args.child.now.memory c.args.parent.now.memory _ _ c.thread_pages.ensures c.in-Ok.ensures.sure

pub returns-in-Ok-clause-memory : goal.returns-in-Ok-clause-memory
returns-in-Ok-clause-memory c =
    shared_merged c.args.snapshot.now.memory c.args.child.now.memory c.args.parent.now.memory c.merge.new.parent.memory _ _ c.thread_pages.ensures c.in-Ok.ensures.ok

pub returns-in-Err-Conflict-clause-refusal : goal.returns-in-Err-Conflict-clause-refusal
returns-in-Err-Conflict-clause-refusal c =
    ap Some c.conflict.ensures ∙ one_conflict c.args.snapshot.now.memory c.args.child.now.memory c.args.parent.now.memory _ _ c.in-Err-Conflict.addr c.thread_pages.ensures (subst (MayFail _) c.in-Err-Conflict.field-0-is c.in-Err-Conflict.ensures.conflict)
