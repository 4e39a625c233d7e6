use Rattle.std.proofs.Common.{refl}
use Rattle.space_step.proofs.Caching.{empty_keeps_nothing}
use Rattle.space_step.proofs.decode_cache.Table.begin.Goals as goal

pub returns : goal.returns
returns c = λ e empty is v. empty_keeps_nothing v _ e empty refl is
