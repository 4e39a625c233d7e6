use Rattle.std.proofs.Common.{ap, ◌∙◌, ◌^◌, arith}
use Rattle.elf_image.specs.View.{run_views}
use Rattle.elf_image.proofs.Below.{each_load, none_yet, adds, all_added}
use Rattle.elf_image.proofs.runs.runs_of.Goals as goal

pub add-requires-clause-filled : goal.add-requires-clause-filled
add-requires-clause-filled c = (each_load 0 (2 ^ 32) c.args.loads.now _ _ c.requires (omega arith)).filled

pub add-requires-clause-range : goal.add-requires-clause-range
add-requires-clause-range c = (each_load 0 (2 ^ 32) c.args.loads.now _ _ c.requires (omega arith)).range

pub loop-done-init : goal.loop-done-init
loop-done-init c = ap run_views c.new-runs.ensures.items ∙ none_yet c.args.loads.now

pub loop-done-preserved : goal.loop-done-preserved
loop-done-preserved c = adds c.args.loads.now c.loop-done.done _ (run_views c.loop-done.runs.items) (run_views c.add.new.runs.items) c.requires c.loop-done-test.true c.loop-done.invariant c.in_ok-add.ensures

pub returns : goal.returns
returns c = all_added c.args.loads.now (run_views c.loop-done.runs.items) c.loop-done.done c.loop-done-test.false c.loop-done.invariant
