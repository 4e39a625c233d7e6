use Rattle.instruction_model.specs.Outcome.{view_of}
use Rattle.rv_exec.specs.Steps.{registers_at}
use Rattle.space_mem.specs.Held.{Marks}
use Rattle.space_step.specs.Stretch.{Executes}
use Rattle.space_step.proofs.stretch.execute.Given as goal

abbrev pub invariant-loop-count : goal.invariant-loop-count
invariant-loop-count g l = record { done : Executes l.count l.fn.registers l.fn.memory.memory (registers_at l.pc l.file) l.memory.memory; agrees : g.S.Source.agrees l.source (view_of l.memory.memory); marks : Marks l.fn.memory l.memory }
