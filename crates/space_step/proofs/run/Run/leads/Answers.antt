use Rattle.std.proofs.Common.{subst}
use Rattle.space_model.proofs.Next.{follows_sound}
use Rattle.space_step.specs.Run.{IsRun}
use Rattle.space_step.proofs.run.Run.leads.Goals as goal

pub returns-clause-sound : goal.returns-clause-sound
returns-clause-sound c = λ fuel root ok.
    let run : IsRun c.args.self.now = subst IsRun c.self.view_is c.self.invariant in
    follows_sound _ _ fuel root _ _ run.follows ok
