use Rattle.std.proofs.Common.{◌≡◌, ◌+◌, ◌≤◌}
use Rattle.file_model.specs.Slots.{slots_of}
use Rattle.file_model.specs.Reconcile.{with_entries, reconciled_bytes, reconcile}
use Rattle.file_model.proofs.Reconciling.{rest}
use Rattle.file_image.specs.Outcomes.{AreReady}
use Rattle.file_image.specs.Spared.{AtEachTurn, IsSparedTurn, content_in}
use Rattle.file_image.proofs.LaterFiles.{later}
use Rattle.file_image.proofs.reconciling.reconcile.Given as goal

abbrev pub invariant-loop-slot : goal.invariant-loop-slot
invariant-loop-slot g l =
    let b = g.P.FileBytes.bytes l.parent in
    let before = g.P.FileBytes.bytes l.fn.parent in
    let d = g.C.FileBytes.bytes l.child in
    record {
      bytes : with_entries b (rest (slots_of b) (later d l.slot)).edits ≡ reconciled_bytes before d;
      left_out : l.left_out + (rest (slots_of b) (later d l.slot)).left_out ≡ (reconcile (slots_of before) (slots_of d)).left_out;
      few : l.left_out ≤ l.slot;
      ready : AreReady (λ k. g.P.FileBytes.is_ready l.parent k) (rest (slots_of b) (later d l.slot));
      turns : AtEachTurn (IsSparedTurn (content_in before) (g.P.FileBytes.spared l.fn.parent)) (slots_of b) (later d l.slot);
      kept : g.P.FileBytes.keeps l.fn.parent l.parent;
    }
