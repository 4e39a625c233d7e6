use Rattle.std.proofs.Common.{subst}
use Rattle.explain_core.specs.Notes.{Puts}
use Rattle.explain_core.proofs.NotedPaths.{puts}
use Rattle.explain_core.proofs.lineage.put_links.Goals as goal

pub returns : goal.returns
returns c =
    subst (λ q. Puts q c.args.links.items c.args.notes.now.entries c.insert.new.self.entries) c.in_ok-path.ensures
    (puts c.args.notes.now c.insert.new.self c.in_ok-path.path c.args.links c.in_ok-insert.ensures.updates)
