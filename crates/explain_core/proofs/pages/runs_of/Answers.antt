use Rattle.std.proofs.Common.{rules}
use Rattle.explain_core.proofs.Runs.{at_last, one_more}
use Rattle.explain_core.proofs.pages.runs_of.Goals as goal

pub runs-preserved : goal.runs-preserved
runs-preserved c =
    let end = c.alike_end-end.ensures in
    one_more c.args.memory.now.memory c.runs.runs.items c.push_run.new.runs.items c.runs.page c.alike_end-end.result c.perm.result end.above end.within end.alike end.other c.runs.invariant c.perm.ensures c.in_ok-push_run.ensures

pub returns : goal.returns
returns c = let past = c.runs-test.false in at_last c.args.memory.now.memory c.runs.runs.items c.runs.page (search rules) c.runs.invariant
