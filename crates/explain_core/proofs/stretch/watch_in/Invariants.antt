use Rattle.std.proofs.Common.{◌≡◌}
use Rattle.instruction_model.specs.Outcome.{view_of}
use Rattle.rv_exec.specs.Steps.{registers_at}
use Rattle.space_mem.specs.Held.{Marks}
use Rattle.explain_core.specs.Stretch.{Watches, last_in}
use Rattle.explain_core.specs.Watch.{value_in}
use Rattle.explain_core.proofs.stretch.watch_in.Given as goal

abbrev pub invariant-loop-count : goal.invariant-loop-count
invariant-loop-count g l = record {
  done : Watches (g.W.Watch.what l.fn.watch) l.fn.first l.count l.fn.registers l.fn.memory.memory (registers_at l.pc l.x) l.memory.memory (last_in (g.W.Watch.what l.fn.watch) l.trail);
  value : l.trail.value ≡ value_in (g.W.Watch.what l.fn.watch) l.x l.memory.memory;
  agrees : g.S.Source.agrees l.source (view_of l.memory.memory);
  marks : Marks l.fn.memory l.memory;
}
