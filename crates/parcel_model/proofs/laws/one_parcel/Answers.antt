use Rattle.parcel_model.proofs.Parcels.{one, one_top}
use Rattle.parcel_model.proofs.laws.one_parcel.Goals as goal

pub returns-clause-parcels : goal.returns-clause-parcels
returns-clause-parcels c = one

pub returns-clause-tops : goal.returns-clause-tops
returns-clause-tops c = one_top
