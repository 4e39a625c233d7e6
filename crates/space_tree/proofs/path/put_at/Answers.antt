use Rattle.std.proofs.Common.{◌≡◌, ◌-◌, true, length, sym, subst}
use Rattle.space_model.specs.Path.{is_root}
use Rattle.space_model.specs.Sound.{IsSoundAt}
use Rattle.space_tree.proofs.Sounds.{put_keeps}
use Rattle.space_tree.proofs.path.put_at.Goals as goal

pub returns-clause-sound : goal.returns-clause-sound
returns-clause-sound c =
    let items : c.deref.result.now ≡ c.args.path.now.items = c.deref.ensures.0 in
    λ fuel before one. put_keeps c.put.result c.deref.result.now fuel c.args.new c.args.space.now c.put.new.space c.deref.ensures.1 c.put.ensures.numbers c.put.ensures.ok c.put.ensures.err before
    (subst (λ p. IsSoundAt (8 - length p) (is_root true p) fuel c.args.new) (sym items) one)
