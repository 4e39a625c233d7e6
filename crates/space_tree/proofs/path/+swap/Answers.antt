use Rattle.std.proofs.Common.{◌∙◌, ap, get_or, refl}
use Rattle.space_model.specs.Space.{over}
use Rattle.space_tree.proofs.Paths.{former_child, former_none, topped_child, topped_none}
use Rattle.space_tree.specs.contracts.space.Space.{the_view}
use Rattle.space_tree.proofs.path.+swap.Goals as goal
use Rattle.space_tree.proofs.path.+swap.Goals.{in-Some, in-None}

pub returns-after-get_mut-clause-former : goal.returns-after-get_mut-clause-former
returns-after-get_mut-clause-former t c =
    let b = c.space.inside in
    elim c.match-get_mut.branch [
      | in-Some w ↦
          former_child c.args.path.now b.top c.match-get_mut.result w.swap.result c.args.space.now w.in-Some.child.now b.children c.in-len1-up.len_at_least c.space.view_is w.in-Some.ensures.value
          w.result-is w.swap.ensures.former
      | in-None w ↦ former_none c.args.path.now b.top c.match-get_mut.result c.args.space.now b.children c.in-len1-up.len_at_least c.space.view_is w.in-None.ensures.value
    ]

pub returns-after-get_mut-clause-swapped : goal.returns-after-get_mut-clause-swapped
returns-after-get_mut-clause-swapped t c =
    let b = c.space.inside in
    elim c.match-get_mut.branch [
      | in-Some w ↦
          ap the_view w.space-inside-is
          ∙ topped_child c.args.path.now c.args.top b.top c.args.space.now w.in-Some.child.now w.swap.new.space b.children (over (get_or c.args.path.now 0 0) (λ _. w.swap.new.space) b.children)
          c.in-len1-up.len_at_least c.space.view_is w.in-Some.ensures.value w.swap.ensures.swapped refl
      | in-None w ↦
          ap the_view w.space-inside-is
          ∙ topped_none c.args.path.now c.args.top b.top c.args.space.now b.children b.children c.in-len1-up.len_at_least c.space.view_is w.in-None.ensures.value
          refl
    ]
