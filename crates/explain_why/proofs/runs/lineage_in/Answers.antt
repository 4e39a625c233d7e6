use Rattle.std.proofs.Common.{◌<◌, length, rules}
use Rattle.std.proofs.lemmas.List.{length-set}
use Rattle.explain_why.proofs.RunsTell.{run_at, tell_set}
use Rattle.explain_why.proofs.runs.lineage_in.Goals as goal

pub returns-then-is_some-clause-tells : goal.returns-then-is_some-clause-tells
returns-then-is_some-clause-tells c =
    λ root sound tell.
    let within : c.loop-index.index < length c.loop-index.runs.items = search rules in
    c.in_ok-found.ensures.tells root sound (run_at root c.loop-index.runs.items c.loop-index.index c.index_mut.result.now c.index_mut.ensures.value within (c.loop-index.invariant.tell root tell))

pub returns-then-is_some-clause-count : goal.returns-then-is_some-clause-count
returns-then-is_some-clause-count c =
    λ root sound tell.
    let within : c.loop-index.index < length c.loop-index.runs.items = search rules in
    c.in_ok-found.ensures.count root sound (run_at root c.loop-index.runs.items c.loop-index.index c.index_mut.result.now c.index_mut.ensures.value within (c.loop-index.invariant.tell root tell))

pub returns-then-is_some-clause-runs : goal.returns-then-is_some-clause-runs
returns-then-is_some-clause-runs c =
    λ root tell.
    let within : c.loop-index.index < length c.loop-index.runs.items = search rules in
    let all = c.loop-index.invariant.tell root tell in
    tell_set root c.loop-index.runs.items c.loop-index.index c.lineage_of.new.run all
    (c.in_ok-found.ensures.run root (run_at root c.loop-index.runs.items c.loop-index.index c.index_mut.result.now c.index_mut.ensures.value within all))

pub loop-index-preserved : goal.loop-index-preserved
loop-index-preserved c =
    let within : c.loop-index.index < length c.loop-index.runs.items = search rules in
    record {
      long = simp length-set c.loop-index.invariant.long;
      tell =
          λ root tell.
          let all = c.loop-index.invariant.tell root tell in
          tell_set root c.loop-index.runs.items c.loop-index.index c.lineage_of.new.run all
          (c.in_ok-found.ensures.run root (run_at root c.loop-index.runs.items c.loop-index.index c.index_mut.result.now c.index_mut.ensures.value within all));
    }
