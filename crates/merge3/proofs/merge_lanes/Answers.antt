use Rattle.merge3.proofs.Lanes.{merged_lanes}
use Rattle.merge3.proofs.merge_lanes.Goals as goal

pub returns-clause-merged : goal.returns-clause-merged
returns-clause-merged c =
    merged_lanes c.args.snapshot.now c.args.child.now c.args.parent.now c.args.out.now c.args.at c.requires.snapshot c.requires.child c.requires.parent c.requires.out c.requires.before
