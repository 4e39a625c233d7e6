use Rattle.std.proofs.Common.{Some, None, ◌∙◌}
use Rattle.explain_core.proofs.NotedPaths.{links_there}
use Rattle.explain_core.proofs.lineage.links_at.Goals as goal

pub returns-in-Some : goal.returns-in-Some
returns-in-Some c = c.as_slice.ensures.value ∙ links_there c.args.notes.now.entries c.args.path.now (Some c.in-Some.links.now) c.in-Some.ensures.value

pub returns-in-None : goal.returns-in-None
returns-in-None c = links_there c.args.notes.now.entries c.args.path.now None c.in-None.ensures.value
