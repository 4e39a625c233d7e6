use Rattle.space_mem.proofs.Alike.{same_trees, trees_same}
use Rattle.space_mem.proofs.table.PageTable.same.Goals as goal

pub returns-clause-same : goal.returns-clause-same
returns-clause-same c held = same_trees c.args.self.now.pages c.args.other.now.pages (c.same.ensures.same held)

pub returns-clause-differs : goal.returns-clause-differs
returns-clause-differs c other same = c.same.ensures.differs other (trees_same c.args.self.now.pages c.args.other.now.pages c.requires.table.whole c.requires.other.whole same)
