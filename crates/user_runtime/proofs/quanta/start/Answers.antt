use Rattle.call_model.specs.declared.Call.TheVariants.{Qstart}
use Rattle.quantum_model.specs.Rows.{with_start}
use Rattle.space_model.proofs.Callers.{stays_sound}
use Rattle.user_runtime.proofs.quanta.start.Goals as goal

pub returns-clause-ok : goal.returns-clause-ok
unfolding with_start
returns-clause-ok c = c.qstart.ensures.ok

pub returns-clause-sound : goal.returns-clause-sound
unfolding with_start
returns-clause-sound c =
    stays_sound c.qstart.result c.args.depth (Qstart c.args.first c.args.count c.args.quantum) c.args.space.now c.qstart.new.space c.requires.may c.qstart.ensures.ok c.qstart.ensures.err
