use Rattle.std.proofs.Common.{◌≡◌, None, replicate}
use Rattle.node_link.proofs.links.no_links.Given as goal

-- so many places have none
abbrev pub invariant-loop : goal.invariant-loop
invariant-loop l = l.links.items ≡ replicate l.counter None
