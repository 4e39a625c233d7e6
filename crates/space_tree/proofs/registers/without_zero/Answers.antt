use Rattle.std.proofs.Common.{◌≡◌, ◌∙◌, ◌-◌, length, drop, ap, arith}
use Rattle.std.proofs.lemmas.List.{take_all, length-drop}
use Rattle.space_tree.proofs.registers.without_zero.Goals as goal

pub returns : goal.returns
returns c =
    let count : length (drop 1 c.x.result.now) ≡ length c.x.result.now - 1 = length-drop 1 c.x.result.now in
    c.copy_from_slice.ensures.after ∙ take_all 31 (drop 1 c.x.result.now) (omega (arith, count)) ∙ ap (drop 1) c.x.ensures.same
