use Rattle.std.proofs.Common.{◌≡◌, map, take}
use Rattle.explain_why.specs.Parts.{HasParts}
use Rattle.explain_why.specs.Runs.{StillTell}
use Rattle.explain_why.specs.Why.{ExplainsSpace}
use Rattle.explain_why.proofs.telling.explain_all.Given as goal

-- the paths so far
abbrev pub invariant-loop-path : goal.invariant-loop-path
invariant-loop-path l = record {
  same : l.root ≡ l.fn.root;
  told : HasParts (ExplainsSpace l.fn.root l.end) (map (λ p. p.items) (take l.path-index l.paths)) l.text.items;
  runs : StillTell l.fn.runs l.runs;
}
