use Rattle.parcel_model.proofs.Parcels.{reads_parcels, top_takes, top_reads}
use Rattle.parcel_model.proofs.laws.reads_exactly_parcels.Goals as goal

pub returns-clause-parcels : goal.returns-clause-parcels
returns-clause-parcels c = reads_parcels

pub returns-clause-tops : goal.returns-clause-tops
returns-clause-tops c = λ known bytes t fits. (top_takes known bytes t fits, top_reads known bytes t)
