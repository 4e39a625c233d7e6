use Rattle.std.proofs.Common.{◌≡◌, [], replicate}
use Rattle.node_store.proofs.nodes.Nodes.new.Given as goal

-- so many nodes have no pages
abbrev pub invariant-loop : goal.invariant-loop
invariant-loop l = l.lists.items ≡ replicate l.counter []
