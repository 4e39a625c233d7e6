use Rattle.std.proofs.Common.{ℕ, List, get_or, ap, ◌∙◌}
use Rattle.node_store.proofs.Ends.{list_is}
use Rattle.node_store.specs.Lists.{NodesView}
use Rattle.node_store.proofs.nodes.Nodes.list.Goals as goal

pub returns : goal.returns
returns c = c.index.ensures ∙ ap (λ (nodes : NodesView). get_or nodes.lists c.args.node c.index.result.now) c.self.view_is ∙ list_is c.args.self.now.lists c.args.node c.index.result.now c.requires
