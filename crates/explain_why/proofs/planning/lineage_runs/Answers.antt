use Rattle.std.proofs.Common.{◌∙◌, sym, subst}
use Rattle.explain_core.specs.LineageRun.{TellsRun}
use Rattle.explain_why.specs.Runs.{TellAll}
use Rattle.explain_why.proofs.RunsTell.{tell_push}
use Rattle.explain_why.proofs.planning.lineage_runs.Goals as goal

pub loop-list-preserved : goal.loop-list-preserved
loop-list-preserved c =
    let root = c.args.root.now in
    let one = subst (λ s. TellsRun s c.in_ok-run.run') (c.in_ok-tree.ensures.equal ∙ c.loop-list.invariant.same) c.in_ok-run.ensures in
    record {
      same = c.copy_tree.ensures.same ∙ c.loop-list.invariant.same;
      tell = subst (TellAll root) (sym c.in_ok-push.ensures.items) (tell_push root c.loop-list.runs.items c.in_ok-run.run' c.loop-list.invariant.tell one);
    }
