use Rattle.std.proofs.Common.{◌≡◌, ◌+◌, ◌*◌, length, take, ap, sym, ◌∙◌, arith, List, ℕ}
use Rattle.file_model.specs.Slots.{with_bytes, bytes_from}
use Rattle.file_model.proofs.Bytes.{nothing_at, length-bytes_from}
use Rattle.file_image.proofs.Parts.{take_all}
use Rattle.file_image.proofs.Runs.{run_written, run_of_row}
use Rattle.file_image.proofs.taking.copy_bytes.Goals as goal

pub loop-done-init : goal.loop-done-init
loop-done-init g c = record {
  in_range = omega arith;
  bytes = λ a. sym (nothing_at (g.P.FileBytes.bytes c.args.parent.now) (65536 * c.args.slot + c.args.offset) a);
  ready = c.requires.ready;
  beyond = c.requires.beyond;
  kept = g.met.P.FileBytes.keeps_itself c.args.parent.now;
}

pub loop-done-preserved : goal.loop-done-preserved
loop-done-preserved g c =
    let inv = c.loop-done.invariant in
    let done = c.loop-done.done in
    let count = c.min-piece.result in
    let d = g.C.FileBytes.bytes c.args.child.now in
    let old = g.P.FileBytes.bytes c.loop-done.parent in
    let new = g.P.FileBytes.bytes c.copy_piece.new.parent in
    let part : List ℕ = bytes_from d c.args.from c.args.count in
    let l : length part ≡ c.args.count = length-bytes_from d c.args.from c.args.count in
    let e : 65536 * c.args.slot + (c.args.offset + done) ≡ 65536 * c.args.slot + c.args.offset + done = omega arith in
    let is : new ≡ with_bytes old (65536 * c.args.slot + c.args.offset + done) (bytes_from d (c.args.from + done) count) =
    c.copy_piece.ensures.bytes ∙ ap (λ o. with_bytes old o (bytes_from d (c.args.from + done) count)) e in
    record {
      in_range = omega (arith, inv.in_range, c.min-piece.ensures);
      bytes = run_written (g.P.FileBytes.bytes c.args.parent.now) old new (65536 * c.args.slot + c.args.offset) done count part (bytes_from d (c.args.from + done) count) (omega (arith, l, inv.in_range))
          (run_of_row d c.args.from c.args.count done count (omega (arith, c.loop-done-test.true, c.min-piece.ensures))) inv.bytes (λ a. ap (λ (x : ℕ → ℕ). x a) is);
      ready = g.met.P.FileBytes.ready_on c.loop-done.parent c.copy_piece.new.parent c.args.slot c.copy_piece.ensures.kept inv.ready;
      beyond = (let s = g.met.P.FileBytes.spared_on c.loop-done.parent c.copy_piece.new.parent c.args.slot c.copy_piece.ensures.kept in omega (arith, s, inv.beyond));
      kept = g.met.P.FileBytes.keeps_on c.args.parent.now c.loop-done.parent c.copy_piece.new.parent inv.kept c.copy_piece.ensures.kept;
    }

pub returns : goal.returns
returns g c =
    let part : List ℕ = bytes_from (g.C.FileBytes.bytes c.args.child.now) c.args.from c.args.count in
    let l : length part ≡ c.args.count = length-bytes_from (g.C.FileBytes.bytes c.args.child.now) c.args.from c.args.count in
    let w : take c.loop-done.done part ≡ part = take_all c.loop-done.done part (omega (arith, l, c.loop-done-test.false)) in
    record {
      bytes = λ t a. (c.loop-done.invariant.bytes a ∙ ap (λ xs. with_bytes (g.P.FileBytes.bytes c.args.parent.now) (65536 * c.args.slot + c.args.offset) xs a) w) t;
      ready = c.loop-done.invariant.ready;
      kept = c.loop-done.invariant.kept;
    }
