use Rattle.std.proofs.Common.{refl, sym, subst}
use Rattle.instruction_model.specs.Outcome.{view_of}
use Rattle.space_step.specs.Source.{IsKnown}
use Rattle.space_step.proofs.Caching.{learnt_agrees}
use Rattle.space_step.proofs.decode_cache.Table.learn.Goals as goal

pub returns-in-Ok-clause-agrees : goal.returns-in-Ok-clause-agrees
returns-in-Ok-clause-agrees c =
    learnt_agrees (view_of c.args.memory.now.memory) c.args.self.now c.args.at c.place_of.result _ c.place_of.ensures c.ranges.at.fits (c.in-Ok.ensures.aligned refl) c.flat_of-instruction.ensures.fields (subst (IsKnown (view_of c.args.memory.now.memory) c.args.at) (sym c.flat_of-instruction.ensures.meaning) c.in-Ok.ensures.known)
    (c.key_of-key.ensures c.requires.0.1) c.requires
