use Rattle.parcel_model.proofs.Longer.{over_longer, grown}
use Rattle.parcel_model.proofs.laws.parcels_over_longer_lists.Goals as goal

pub returns-clause-tops : goal.returns-clause-tops
returns-clause-tops c = over_longer

pub returns-clause-grown : goal.returns-clause-grown
returns-clause-grown c = grown
