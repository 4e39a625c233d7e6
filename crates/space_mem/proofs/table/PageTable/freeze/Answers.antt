use Rattle.space_mem.proofs.Tables.{owned_none}
use Rattle.space_mem.proofs.Updates.{root_memory}
use Rattle.space_mem.proofs.Freezes.{owns_less}
use Rattle.space_mem.proofs.table.PageTable.freeze.Goals as goal

pub returns-in_err-freeze-clause-same : goal.returns-in_err-freeze-clause-same
returns-in_err-freeze-clause-same c = root_memory c.args.self.now.pages c.freeze.new.self c.in_err-freeze.ensures.same

pub returns-clause-same : goal.returns-clause-same
returns-clause-same c = root_memory c.args.self.now.pages c.freeze.new.self c.in_ok-freeze.ensures.same

pub returns-clause-none : goal.returns-clause-none
returns-clause-none c = owned_none c.freeze.new.self c.in_ok-freeze.ensures.none

pub returns-in_err-freeze-clause-less : goal.returns-in_err-freeze-clause-less
returns-in_err-freeze-clause-less c = owns_less c.args.self.now (record c.args.self.now { pages = c.freeze.new.self }) c.in_err-freeze.ensures.less

pub returns-clause-less : goal.returns-clause-less
returns-clause-less c = owns_less c.args.self.now (record c.args.self.now { pages = c.freeze.new.self }) c.in_ok-freeze.ensures.less
