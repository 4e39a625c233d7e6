use Rattle.parcel_model.proofs.Packed.{fresh_bytes, nothing_read}
use Rattle.parcel_model.proofs.laws.least_parcels.Goals as goal

pub returns-clause-none : goal.returns-clause-none
returns-clause-none c = nothing_read

pub returns-clause-fresh : goal.returns-clause-fresh
returns-clause-fresh c = fresh_bytes
