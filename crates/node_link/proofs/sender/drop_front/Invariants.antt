use Rattle.std.proofs.Common.{◌≡◌, drop}
use Rattle.node_link.proofs.sender.drop_front.Given as goal

abbrev pub invariant-loop : goal.invariant-loop
invariant-loop l = l.kept.items ≡ drop l.counter l.initial.kept.items
