use Rattle.std.proofs.Common.{None, ap, ◌∙◌}
use Rattle.space_mem.specs.Held.{Held}
use Rattle.node_parcel.specs.declared.runs.Run.{Run}
use Rattle.node_parcel.specs.AtOnce.{with_run}
use Rattle.node_parcel.proofs.AtOnce.{nothing_put}
use Rattle.node_parcel.proofs.OneNumber.{nothing_yet}
use Rattle.node_parcel.proofs.runs.Placing.new.Goals as goal

pub returns-clause-means : goal.returns-clause-means
returns-clause-means c =
    ap (λ (r : Run). with_run c.args.known.now c.new-memory.result.memory r.first r.permission r.number r.count) c.none-run.ensures
    ∙ nothing_put c.args.known.now c.new-memory.result.memory 0 0 None
    ∙ ap (λ (h : Held). h.memory) c.new-memory.ensures

pub returns-clause-put : goal.returns-clause-put
returns-clause-put c = nothing_yet c.args.known.now _ c.new-spans.ensures.items c.none-run.ensures
