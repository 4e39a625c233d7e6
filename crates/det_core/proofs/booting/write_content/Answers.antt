use Rattle.std.proofs.Common.{◌≡◌, ◌+◌, ◌-◌, take, drop, length, refl, ap, arith}
use Rattle.std.proofs.lemmas.List.{length-take, length-drop}
use Rattle.space_mem.proofs.PageEdits.{written_turn}
use Rattle.det_core.proofs.Zeros.{still_empty}
use Rattle.det_core.proofs.booting.write_content.Goals as goal

pub write_part-requires-clause-empty : goal.write_part-requires-clause-empty
write_part-requires-clause-empty c =
    let done = c.loop-done.done in
    let count = c.min-count.result in
    let part = take (done + count - done) (drop done c.args.bytes.now) in
    let len : length part ≡ count = omega (arith, length-take (done + count - done) (drop done c.args.bytes.now), length-drop done c.args.bytes.now, c.min-count.ensures, c.loop-done.invariant.in_range) in
    still_empty c.args.memory.now.memory c.loop-done.memory.memory c.args.at done (length part) (c.args.at + done) c.args.bytes.now c.requires.empty c.loop-done.invariant.written (omega (arith, len, c.min-count.ensures, c.loop-done.invariant.in_range)) refl

pub loop-done-preserved : goal.loop-done-preserved
loop-done-preserved c =
    let inv = c.loop-done.invariant in
    let done = c.loop-done.done in
    let count = c.min-count.result in
    let bytes = c.args.bytes.now in
    let e : done + count - done ≡ count = omega arith in
    record {
      in_range = omega (arith, inv.in_range, c.min-count.ensures);
      written = written_turn c.args.memory.now.memory c.loop-done.memory.memory c.write_part.new.memory.memory c.args.at (c.args.at + done) done count bytes _ inv.written inv.in_range refl (ap (λ n. take n (drop done bytes)) e) c.in_ok-write_part.ensures;
    }
