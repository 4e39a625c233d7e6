use Rattle.space_mem.proofs.Copies.{branch_permission, branch_bytes}
use Rattle.space_mem.proofs.copying.move_branch.Goals as goal

pub returns-clause-here : goal.returns-clause-here
returns-clause-here c = branch_permission c.args.source.now c.prepare.new.self c.put_branch.new.self c.args.at c.args.to c.in_ok-branch.branch c.requires.at c.requires.to c.requires.within c.in_ok-branch.ensures.same c.put_branch.ensures.put

pub returns-clause-bytes : goal.returns-clause-bytes
returns-clause-bytes c = branch_bytes c.args.source.now c.prepare.new.self c.put_branch.new.self c.args.at c.args.to c.in_ok-branch.branch c.requires.at c.requires.to c.requires.within c.in_ok-branch.ensures.same c.put_branch.ensures.put
