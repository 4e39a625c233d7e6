use Rattle.call_model.specs.declared.Call.TheVariants.{Qcommit}
use Rattle.quantum_model.specs.Rows.{with_commit}
use Rattle.space_model.proofs.Callers.{stays_sound}
use Rattle.user_runtime.proofs.quanta.commit.Goals as goal

pub returns-clause-ok : goal.returns-clause-ok
unfolding with_commit
returns-clause-ok c = c.qcommit.ensures.ok

pub returns-clause-sound : goal.returns-clause-sound
unfolding with_commit
returns-clause-sound c =
    stays_sound c.qcommit.result c.args.depth (Qcommit c.args.first c.args.count) c.args.space.now c.qcommit.new.space c.requires.may c.qcommit.ensures.ok c.qcommit.ensures.err
