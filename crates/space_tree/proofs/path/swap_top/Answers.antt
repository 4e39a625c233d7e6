use Rattle.std.proofs.Common.{◌∙◌, true, sym, ap, subst}
use Rattle.space_model.specs.Path.{with_top}
use Rattle.space_model.specs.Sound.{IsSoundAt}
use Rattle.space_model.proofs.Sound.{with_top_sound}
use Rattle.space_tree.proofs.path.swap_top.Goals as goal

pub returns-clause-sound : goal.returns-clause-sound
returns-clause-sound c =
    let p = c.args.path.now.items in
    let swapped = c.swap.ensures.swapped ∙ ap (λ q. with_top q c.args.top c.args.space.now) c.deref.ensures.0 in
    λ fuel before one. subst (IsSoundAt 8 true fuel) (sym swapped) (with_top_sound p 8 true fuel c.args.top c.args.space.now one before)
