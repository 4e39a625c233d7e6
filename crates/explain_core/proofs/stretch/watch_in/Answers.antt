use Rattle.std.proofs.Common.{◌+◌, refl, ap, ◌∙◌}
use Rattle.rv_exec.specs.Steps.{registers_at}
use Rattle.space_mem.proofs.Dirty.{marks_then}
use Rattle.explain_core.specs.Stretch.{last_in, last_of}
use Rattle.explain_core.proofs.WatchedEvents.{watches_more}
use Rattle.explain_core.proofs.stretch.watch_in.Goals as goal

pub loop-count-preserved : goal.loop-count-preserved
loop-count-preserved g c =
    let w = g.W.Watch.what c.args.watch in
    let q = registers_at c.loop-count.pc c.loop-count.x in
    let s = registers_at c.step.new.pc c.step.new.x in
    let k = c.loop-count.memory.memory in
    let n = c.step.new.memory.memory in
    let knows = c.if-not-step.ensures.knows refl in
    record {
      done = watches_more w c.args.first c.loop-count.count c.args.registers.now q s c.args.memory.now.memory k n (last_in w c.loop-count.trail) (last_in w c.step.new.trail) c.loop-count.invariant.done (c.if-not-step.ensures.done refl)
          (knows.last ∙ ap (λ m. last_of w (c.args.first + m) q k s n (last_in w c.loop-count.trail)) c.from.ensures);
      value = knows.value;
      agrees = c.if-not-step.ensures.agrees;
      marks = marks_then c.args.memory.now c.loop-count.memory c.step.new.memory c.loop-count.invariant.marks c.if-not-step.ensures.marks;
    }
