use Rattle.std.proofs.Common.{arith, ◌/◌, ◌%◌}
use Rattle.page_tree.proofs.branch.Branch.freeze.Goals as goal

pub returns-clause-same : goal.returns-clause-same
returns-clause-same c = record {
  permission = λ q below. (c.loop-i.invariant.same (q / 64)).permission (q % 64) (omega arith);
  byte = λ q k below. (c.loop-i.invariant.same (q / 64)).byte (q % 64) k (omega arith);
}

pub returns-clause-none : goal.returns-clause-none
returns-clause-none c q below = c.loop-i.invariant.none (q / 64) (omega (arith, c.loop-i-test.false)) (q % 64) (omega arith)

pub returns-clause-less : goal.returns-clause-less
returns-clause-less c q below own = c.loop-i.invariant.less (q / 64) (q % 64) (omega arith) own

pub returns-clause-whole : goal.returns-clause-whole
returns-clause-whole c = c.loop-i.invariant.whole
