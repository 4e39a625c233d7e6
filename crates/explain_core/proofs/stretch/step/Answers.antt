use Rattle.std.proofs.Common.{true, refl}
use Rattle.instruction_model.specs.Outcome.{view_of, perform}
use Rattle.rv_exec.specs.Flat.{meaning}
use Rattle.rv_exec.specs.Steps.{registers_at}
use Rattle.explain_core.proofs.WatchedEvents.{keeps_up, stays_up, step_is_done}
use Rattle.explain_core.proofs.stretch.step.Goals as goal

pub returns-then-seen-clause-knows : goal.returns-then-seen-clause-knows
returns-then-seen-clause-knows g c sure =
    let m = c.args.memory.now.memory in
    let n = c.does.new.memory.memory in
    let r = registers_at c.args.pc.now c.args.x.now in
    let s = registers_at c.does.new.pc c.does.new.x in
    let i = meaning c.in-Ok.instruction in
    let done = step_is_done true (perform i (view_of m) r) (perform i (view_of m) r) r s m n refl (rw c.in-Ok-Next.field-0-is at c.in-Ok-Next.ensures.steps) in
    keeps_up (g.W.Watch.what c.args.watch) c.args.number c.args.pc.now c.does.new.pc c.args.x.now c.does.new.x m n c.args.trail.now c.note.new.self c.requires.value (c.may_change-seen.ensures.alone c.if-seen.true c.args.pc.now m s n done)
    (rw (c.word_if-word.ensures c.if-seen.true, c.value-value.ensures, c.memory-2.ensures, c.memory-then-seen.ensures) at c.note.ensures)

pub returns-else-seen-clause-knows : goal.returns-else-seen-clause-knows
returns-else-seen-clause-knows g c sure =
    let m = c.args.memory.now.memory in
    let n = c.does.new.memory.memory in
    let r = registers_at c.args.pc.now c.args.x.now in
    let s = registers_at c.does.new.pc c.does.new.x in
    let i = meaning c.in-Ok.instruction in
    let done = step_is_done true (perform i (view_of m) r) (perform i (view_of m) r) r s m n refl (rw c.in-Ok-Next.field-0-is at c.in-Ok-Next.ensures.steps) in
    stays_up (g.W.Watch.what c.args.watch) c.args.number r s m n c.args.trail.now c.requires.value (c.may_change-seen.ensures.leaves c.if-seen.false c.args.pc.now m s n done)
