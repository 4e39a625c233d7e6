use Rattle.instruction_model.specs.Outcome.{view_of}
use Rattle.rv_exec.specs.Flat.{meaning}
use Rattle.rv_exec.specs.Steps.{registers_at}
use Rattle.space_step.proofs.Marking.{performed_marks}
use Rattle.explain_core.proofs.stretch.does.Goals as goal

pub returns-clause-marks : goal.returns-clause-marks
returns-clause-marks g c = performed_marks (meaning c.args.instruction) (view_of c.args.memory.now.memory) c.perform.result (registers_at c.args.pc.now c.args.x.now) (registers_at c.perform.new.pc c.perform.new.x) c.args.memory.now c.perform.new.bus c.perform.ensures
