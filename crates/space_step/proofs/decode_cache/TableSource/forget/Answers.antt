use Rattle.instruction_model.specs.Outcome.{view_of}
use Rattle.space_step.proofs.Caching.{stored_agrees}
use Rattle.space_step.proofs.decode_cache.TableSource.forget.Goals as goal

pub returns-clause-after : goal.returns-clause-after
returns-clause-after c = λ m w value aligned agrees.
    stored_agrees m _ c.args.at w value aligned (c.invalidate.ensures.agrees (view_of m) agrees) (c.invalidate.ensures.lacks (view_of m) agrees)
