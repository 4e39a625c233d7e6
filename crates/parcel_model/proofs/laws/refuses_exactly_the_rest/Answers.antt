use Rattle.parcel_model.proofs.Parcels.{refuses_the_rest}
use Rattle.parcel_model.proofs.laws.refuses_exactly_the_rest.Goals as goal

pub returns : goal.returns
returns c = refuses_the_rest
