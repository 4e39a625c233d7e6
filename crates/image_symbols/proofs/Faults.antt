-- What a source that is refused gives.
use Rattle.std.proofs.Common.{◌≡◌, Err, ap}
use Rattle.fault_model.specs.declared.fault.Fault.{Fault}
use Rattle.fault_model.specs.declared.fault.Fault.TheVariants as faults
use Rattle.fault_model.specs.Gives.{Fails}

-- whatever is read besides
pub fails_alike : {E : Type 0} (X Y : Type 0) (fault : Fault E) (e : E) → Fails {Y = X} fault (Err e) → Fails {Y = Y} fault (Err e)
fails_alike X Y faults.Memory e h = tt
fails_alike X Y (faults.Bad d) e h = let same : e ≡ d = cc in ap (λ x. Err x) same
