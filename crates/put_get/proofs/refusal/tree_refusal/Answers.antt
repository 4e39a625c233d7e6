use Rattle.std.proofs.Common.{◌-◌, ◌∙◌, arith}
use Rattle.put_get.proofs.Trees.{height_stops, height_passes, missing_passes}
use Rattle.put_get.proofs.refusal.tree_refusal.Goals as goal

pub returns-in_err-copied : goal.returns-in_err-copied
returns-in_err-copied c = c.from_residual.ensures ∙ missing_passes (8 - c.args.depth) c.args.from c.args.children.now c.in_err-copied.ensures

pub returns-then-saturating_add-depth : goal.returns-then-saturating_add-depth
returns-then-saturating_add-depth c =
    height_stops (8 - c.args.depth) c.args.from c.in_ok-copied.copied.now _ c.args.children.now c.in_ok-copied.ensures (omega arith) c.too_deep.ensures

pub returns : goal.returns
returns c = height_passes (8 - c.args.depth) c.args.from c.in_ok-copied.copied.now c.args.children.now c.in_ok-copied.ensures (omega arith) (omega arith)
