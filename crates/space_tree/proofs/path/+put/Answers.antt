use Rattle.std.proofs.Common.{◌≡◌, ◌∙◌, ap, sym, subst, arith, get_or, refl}
use Rattle.std.proofs.lemmas.Result.{on_ok_weaker, on_err_weaker}
use Rattle.std.specs.Prelude.{OnOk, OnErr}
use Rattle.space_model.specs.Space.{over}
use Rattle.space_model.specs.Path.{with_space}
use Rattle.space_tree.proofs.Paths.{parent_child, no_parent, placed_child, same_child}
use Rattle.space_tree.specs.contracts.space.Space.{the_view}
use Rattle.space_tree.proofs.path.+put.Goals as goal
use Rattle.space_tree.proofs.path.+put.Goals.{in-Some, in-None}

pub put-requires : goal.put-requires
put-requires t c =
    let b = c.space.inside in
    (omega arith, parent_child c.args.path.now b.top c.args.space.now c.in-Some.child.now b.children c.in-len1-up.len_at_least c.space.view_is c.in-Some.ensures.value c.requires)

pub returns-after-get_mut-clause-ok : goal.returns-after-get_mut-clause-ok
returns-after-get_mut-clause-ok t c =
    let b = c.space.inside in
    elim c.match-get_mut.branch [
      | in-Some w ↦
          subst (λ r. OnOk r (the_view c.match-get_mut.space-inside ≡ with_space c.args.path.now c.args.new c.args.space.now)) (sym w.result-is)
          (on_ok_weaker w.put.result
          (λ e. ap the_view w.space-inside-is
          ∙ placed_child c.args.path.now c.args.new b.top c.args.space.now w.in-Some.child.now w.put.new.space b.children (over (get_or c.args.path.now 0 0) (λ _. w.put.new.space) b.children) c.in-len1-up.len_at_least
          c.space.view_is w.in-Some.ensures.value e refl)
          w.put.ensures.ok)
      | in-None w ↦ absurd (no_parent c.args.path.now b.top c.args.space.now b.children c.in-len1-up.len_at_least c.space.view_is w.in-None.ensures.value c.requires)
    ]

pub returns-after-get_mut-clause-err : goal.returns-after-get_mut-clause-err
returns-after-get_mut-clause-err t c =
    let b = c.space.inside in
    elim c.match-get_mut.branch [
      | in-Some w ↦
          subst (λ r. OnErr r (the_view c.match-get_mut.space-inside ≡ c.args.space.now)) (sym w.result-is)
          (on_err_weaker w.put.result
          (λ e. ap the_view w.space-inside-is
          ∙ same_child (get_or c.args.path.now 0 0) b.top c.args.space.now w.in-Some.child.now w.put.new.space b.children (over (get_or c.args.path.now 0 0) (λ _. w.put.new.space) b.children)
          c.space.view_is w.in-Some.ensures.value e refl)
          w.put.ensures.err)
      | in-None w ↦ absurd (no_parent c.args.path.now b.top c.args.space.now b.children c.in-len1-up.len_at_least c.space.view_is w.in-None.ensures.value c.requires)
    ]
