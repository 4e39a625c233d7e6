use Rattle.std.proofs.Common.{map}
use Rattle.explain_why.proofs.TreePaths.{IsLeft}
use Rattle.explain_why.proofs.paths.+push_paths.Given as goal

-- what stands there, and the children whose paths are left
abbrev pub invariant-loop-number : goal.invariant-loop-number
invariant-loop-number l = IsLeft l.path.items (map (λ p. p.items) l.fn.paths.items) l.space (map (λ p. p.items) l.paths.items) l.number-iterator
