use Rattle.std.proofs.Common.{◌≡◌, ◌+◌, ◌-◌, ◌*◌, ◌/◌, take, drop, ap, sym, ◌∙◌, arith}
use Rattle.file_model.specs.Slots.{with_bytes}
use Rattle.file_model.proofs.Bytes.{nothing_at}
use Rattle.file_image.proofs.Parts.{take_all}
use Rattle.file_image.proofs.Runs.{run_written}
use Rattle.file_image.proofs.writing.write_bytes.Goals as goal

pub loop-done-init : goal.loop-done-init
loop-done-init g c = record {
  in_range = omega arith;
  bytes = λ a. sym (nothing_at (g.B.FileBytes.bytes c.args.bytes.now) (65536 * c.args.slot + c.args.offset) a);
  ready = c.requires.ready;
  content = c.requires.content;
  beyond = c.requires.beyond;
  kept = g.met.B.FileBytes.keeps_itself c.args.bytes.now;
}

pub write_run-requires-clause-beyond : goal.write_run-requires-clause-beyond
write_run-requires-clause-beyond g c = λ high.
    let at = 65536 * c.args.slot + c.args.offset + c.loop-done.done in
    let e : at / 65536 ≡ c.args.slot = omega (arith, c.requires.within, c.loop-done-test.true) in
    let s : g.B.FileBytes.spared c.loop-done.bytes (at / 65536) ≡ g.B.FileBytes.spared c.loop-done.bytes c.args.slot = ap (g.B.FileBytes.spared c.loop-done.bytes) e in
    let b = c.loop-done.invariant.beyond (omega (arith, c.requires.within, c.loop-done-test.true, high)) in
    omega (arith, c.requires.within, c.loop-done-test.true, s, b)

pub loop-done-preserved : goal.loop-done-preserved
loop-done-preserved g c =
    let inv = c.loop-done.invariant in
    let done = c.loop-done.done in
    let count = c.min-count.result in
    let part = c.args.part.now in
    let e : done + count - done ≡ count = omega arith in
    record {
      in_range = omega (arith, inv.in_range, c.min-count.ensures);
      bytes = run_written (g.B.FileBytes.bytes c.args.bytes.now) (g.B.FileBytes.bytes c.loop-done.bytes) (g.B.FileBytes.bytes c.write_run.new.self) (65536 * c.args.slot + c.args.offset) done count part _ inv.in_range
          (ap (λ n. take n (drop done part)) e) inv.bytes c.write_run.ensures.bytes;
      ready = g.met.B.FileBytes.header_on c.loop-done.bytes c.write_run.new.self c.args.slot c.write_run.ensures.kept inv.ready;
      content = λ more. g.met.B.FileBytes.ready_on c.loop-done.bytes c.write_run.new.self c.args.slot c.write_run.ensures.kept (inv.content more);
      beyond = λ more.
          let s = g.met.B.FileBytes.spared_on c.loop-done.bytes c.write_run.new.self c.args.slot c.write_run.ensures.kept in
          let b = inv.beyond more in
          omega (arith, s, b);
      kept = g.met.B.FileBytes.keeps_on c.args.bytes.now c.loop-done.bytes c.write_run.new.self inv.kept c.write_run.ensures.kept;
    }

pub returns : goal.returns
returns g c =
    let w : take c.loop-done.done c.args.part.now ≡ c.args.part.now = take_all c.loop-done.done c.args.part.now (omega arith) in
    record {
      bytes = λ t a. (c.loop-done.invariant.bytes a ∙ ap (λ xs. with_bytes (g.B.FileBytes.bytes c.args.bytes.now) (65536 * c.args.slot + c.args.offset) xs a) w) t;
      ready = c.loop-done.invariant.ready;
      kept = c.loop-done.invariant.kept;
    }
