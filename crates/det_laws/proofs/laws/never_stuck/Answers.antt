use Rattle.std.proofs.Common.{true, sym, ◌∙◌, true≢false}
use Rattle.det_laws.proofs.Commutes.{settled_rests}
use Rattle.det_laws.proofs.Reaching.{never_stuck}
use Rattle.det_laws.proofs.laws.never_stuck.Goals as goal

pub returns-clause-goes_on : goal.returns-clause-goes_on
returns-clause-goes_on c s sound busy = never_stuck 8 true sound.0 s sound.1.2 (λ still. true≢false (sym still ∙ busy))

pub returns-clause-rests : goal.returns-clause-rests
returns-clause-rests c s p still may = settled_rests p 8 s still may
