use Rattle.std.proofs.Common.{Some, ap, ◌∙◌}
use Rattle.std.specs.Prelude.{is_none}
use Rattle.put_get.specs.Meetings.{snapshot_in}
use Rattle.put_get.proofs.Trees.{no_memory_in, lacking, missing_lacks}
use Rattle.put_get.proofs.refusal.lacks_snapshot.Goals as goal

pub returns-in-Some : goal.returns-in-Some
returns-in-Some c =
    lacking c.args.number c.in-Some.child.now c.is_none.result c.args.children.now c.in-Some.ensures
    (no_memory_in _ c.is_none.result c.is_none.ensures ∙ ap (λ i. is_none i.top.snapshot) c.child-inside.view_is ∙ ap (λ s. is_none (snapshot_in (Some s))) c.child.view_is)

pub returns-in-None : goal.returns-in-None
returns-in-None c = missing_lacks c.args.number c.args.children.now c.in-None.ensures
