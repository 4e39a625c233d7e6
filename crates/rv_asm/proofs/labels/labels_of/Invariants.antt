use Rattle.std.proofs.Common.{◌≡◌, ℕ, ◌+◌, ◌≤◌, List, length}
use Rattle.rv_asm.specs.Sound.{IsNear}
use Rattle.rv_asm.specs.View.{labels_in}
use Rattle.source_model.specs.Layout.{start, definition_in}
use Rattle.source_model.specs.Bytes.{lines_of}
use Rattle.source_model.specs.Mnemonic.{or_else}
use Rattle.rv_asm.proofs.labels.labels_of.Given as goal

abbrev pub invariant-loop-rest : goal.invariant-loop-rest
invariant-loop-rest l = record {
  found : (q : List ℕ) → or_else (labels_in l.labels q) (definition_in l.number l.here (lines_of l.rest) q) ≡ definition_in 1 start (lines_of l.source) q;
  near : IsNear l.here;
  few : l.number + length l.rest ≤ length l.source + 1;
}

abbrev pub decreases-loop-rest : goal.decreases-loop-rest
decreases-loop-rest l = length l.rest
