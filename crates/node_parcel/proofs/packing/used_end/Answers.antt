use Rattle.node_parcel.proofs.InRows.{row_used}
use Rattle.node_parcel.proofs.packing.used_end.Goals as goal

pub returns-clause-used : goal.returns-clause-used
returns-clause-used c = row_used c.args.memory.now.memory c.args.page c.bare_end.result _ c.requires.used c.bare_end.ensures.zero c.bare_end.ensures.permission c.max.ensures
