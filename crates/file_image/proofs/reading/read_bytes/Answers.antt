use Rattle.std.proofs.Common.{◌≡◌, ◌+◌, ◌-◌, ◌≤◌, ◌++◌, length, take, drop, ap, sym, ◌∙◌, arith, length-drop}
use Rattle.std.proofs.lemmas.List.{length-take-le}
use Rattle.std.proofs.lemmas.Slice.{take-put_mid}
use Rattle.file_model.specs.Slots.{bytes_from}
use Rattle.file_model.proofs.Bytes.{length-bytes_from}
use Rattle.file_image.proofs.Parts.{take_all}
use Rattle.file_image.proofs.Runs.{row_none, row_next}
use Rattle.file_image.proofs.reading.read_bytes.Goals as goal

pub loop-done-init : goal.loop-done-init
loop-done-init g c = record { in_range = omega arith; bytes = row_none (g.B.FileBytes.bytes c.args.bytes.now) c.args.at }

pub loop-done-preserved : goal.loop-done-preserved
loop-done-preserved g c =
    let b = g.B.FileBytes.bytes c.args.bytes.now in
    let inv = c.loop-done.invariant in
    let out = c.loop-done.out in
    let done = c.loop-done.done in
    let count = c.min-count.result in
    let new = c.read_run.new.out in
    let fits : done + count ≤ length out = omega (arith, c.loop-done-test.true, c.min-count.ensures) in
    let k : done + count - done ≡ count = omega arith in
    let n : length (take (done + count - done) (drop done out)) ≡ count = ap (λ m. length (take m (drop done out))) k ∙ length-take-le count (drop done out) (omega (arith, fits, length-drop done out)) in
    let r : new ≡ bytes_from b (c.args.at + done) count = c.read_run.ensures ∙ ap (bytes_from b (c.args.at + done)) n in
    let l : length new ≡ count = ap length r ∙ length-bytes_from b (c.args.at + done) count in
    record {
      in_range = omega (arith, fits, c.loop-done.auto.out);
      bytes = take-put_mid done (done + count - done) out new (done + count) (omega (arith, l)) (omega (arith, fits)) ∙ (λ i. inv.bytes i ++ r i) ∙ row_next b c.args.at done count;
    }

pub returns : goal.returns
returns g c =
    let b = g.B.FileBytes.bytes c.args.bytes.now in
    let inv = c.loop-done.invariant in
    let n : c.loop-done.done ≡ length c.args.out.now = omega (arith, inv.in_range, c.loop-done.auto.out, c.loop-done-test.false) in
    sym (take_all c.loop-done.done c.loop-done.out (omega (arith, c.loop-done-test.false))) ∙ inv.bytes ∙ ap (bytes_from b c.args.at) n
