use Rattle.std.proofs.Common.{◌≡◌, ℕ, ◌-◌, ◌≤◌, true}
use Rattle.file_model.specs.Slots.{slots_from}
use Rattle.file_model.specs.Reconcile.{with_entries, base_entries, with_bases}
use Rattle.file_image.specs.Lookup.{HasFile}
use Rattle.file_image.proofs.basing.mark_base.Given as goal

abbrev pub invariant-loop-slot : goal.invariant-loop-slot
invariant-loop-slot g l =
    let b = g.B.FileBytes.bytes l.bytes in
    record {
      bytes : with_entries b (base_entries l.slot (slots_from b l.slot (64 - l.slot))) ≡ with_bases (g.B.FileBytes.bytes l.fn.bytes);
      ready : (k : ℕ) → l.slot ≤ k → HasFile b k → g.B.FileBytes.has_header l.bytes k ≡ true;
      kept : g.B.FileBytes.keeps l.fn.bytes l.bytes;
    }
