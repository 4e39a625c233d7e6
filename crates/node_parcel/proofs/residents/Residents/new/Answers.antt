use Rattle.node_parcel.proofs.Kept.{none_kept}
use Rattle.node_parcel.proofs.Numbers.{no_numbers}
use Rattle.node_parcel.proofs.residents.Residents.new.Goals as goal

pub invariant_of-result : goal.invariant_of-result
invariant_of-result c = rw c.new.ensures.items (record { found = no_numbers c.new-2.result c.new-2.ensures.empty; held = none_kept c.new-3.result.memory })
