use Rattle.rv_exec.specs.Steps.{registers_at}
use Rattle.space_mem.proofs.Dirty.{marks_then}
use Rattle.space_step.proofs.Stretches.{executes_more}
use Rattle.space_step.proofs.stretch.execute.Goals as goal

pub loop-count-preserved : goal.loop-count-preserved
loop-count-preserved g c = record {
  done = executes_more c.loop-count.count c.args.registers.now (registers_at c.loop-count.pc c.loop-count.file) (registers_at c.step_from.new.pc c.step_from.new.x) c.args.memory.now.memory c.loop-count.memory.memory c.step_from.new.memory.memory _ c.loop-count.invariant.done
      (rw c.in-Ok-Next.field-0-is at c.in-Ok-Next.ensures.steps);
  agrees = c.in-Ok-Next.ensures.agrees;
  marks = marks_then c.args.memory.now c.loop-count.memory c.step_from.new.memory c.loop-count.invariant.marks c.step_from.ensures.marks;
}
