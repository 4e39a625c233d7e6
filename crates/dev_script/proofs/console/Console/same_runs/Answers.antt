use Rattle.std.proofs.Common.{◌≤◌, length, arith}
use Rattle.dev_script.proofs.Runs.{runs_more, run_fits}
use Rattle.dev_script.proofs.console.Console.same_runs.Goals as goal

pub loop-at-preserved : goal.loop-at-preserved
loop-at-preserved c =
    let own = c.run_at-own.result.now in
    let others = c.run_at-others.result.now in
    let low : c.min-count.result ≤ length own = omega (arith, c.min-count.ensures) in
    let low_too : c.min-count.result ≤ length others = omega (arith, c.min-count.ensures) in
    let fits = run_fits c.args.self.now own c.loop-at.at c.run_at-own.ensures.run c.loop-at.invariant.within in
    record {
      within = omega (arith, low, fits);
      same = runs_more c.args.self.now c.args.other.now own others c.loop-at.at c.min-count.result c.loop-at.invariant.same c.run_at-own.ensures.run c.run_at-others.ensures.run low low_too (c.same_start.ensures.same c.if-not-same_start.false);
    }
