use Rattle.link_model.proofs.Frames.{parcels, receipts}
use Rattle.link_model.proofs.laws.reads_exactly_frames.Goals as goal

pub returns-clause-parcels : goal.returns-clause-parcels
returns-clause-parcels c = parcels

pub returns-clause-receipts : goal.returns-clause-receipts
returns-clause-receipts c = receipts
