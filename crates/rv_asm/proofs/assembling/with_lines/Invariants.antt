use Rattle.std.proofs.Common.{◌≡◌, ◌+◌, ◌≤◌, length}
use Rattle.rv_asm.specs.Sound.{IsNear}
use Rattle.rv_asm.specs.View.{labels_in, draft_view}
use Rattle.source_model.specs.Reading as sources
use Rattle.source_model.specs.Bytes.{lines_of}
use Rattle.rv_asm.proofs.assembling.with_lines.Given as goal

abbrev pub invariant-loop-rest : goal.invariant-loop-rest
invariant-loop-rest l = record {
  so_far : sources.with_lines (labels_in l.labels) l.number (draft_view l.draft) (lines_of l.rest) ≡ sources.with_lines (labels_in l.labels) 1 sources.blank (lines_of l.source);
  near : IsNear l.draft.layout;
  room : l.draft.size ≤ 16777216;
  few : l.number + length l.rest ≤ length l.source + 1;
}

abbrev pub decreases-loop-rest : goal.decreases-loop-rest
decreases-loop-rest l = length l.rest
