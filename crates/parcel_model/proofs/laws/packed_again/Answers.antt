use Rattle.parcel_model.proofs.Packed.{packed_spells, packed_reads}
use Rattle.parcel_model.proofs.laws.packed_again.Goals as goal

pub returns-clause-spelled : goal.returns-clause-spelled
returns-clause-spelled c = packed_spells

pub returns-clause-read : goal.returns-clause-read
returns-clause-read c = packed_reads
