use Rattle.std.proofs.Common.{◌≡◌}
use Rattle.explain_why.specs.Parts.{HasParts, numbers_below}
use Rattle.explain_why.specs.Runs.{StillTell}
use Rattle.explain_why.specs.Why.{ExplainsSlot}
use Rattle.explain_why.proofs.files.explain_files.Given as goal

-- the slots so far
abbrev pub invariant-loop-slot : goal.invariant-loop-slot
invariant-loop-slot l = record {
  same : l.root ≡ l.fn.root;
  told : let m = l.memory in HasParts (ExplainsSlot l.fn.root l.path.items m.memory) (numbers_below l.slot) l.text.items;
  runs : StillTell l.fn.runs l.runs;
}
