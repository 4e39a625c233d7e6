use Rattle.std.proofs.Common.{◌-◌, IfSome, sym, subst}
use Rattle.space_model.specs.Sound.{IsSound}
use Rattle.explain_core.specs.Ending.{HasHad}
use Rattle.explain_core.specs.Watch.{kept_of}
use Rattle.explain_core.proofs.Endings.{had_sound}
use Rattle.explain_core.proofs.ending.last_events.Goals as goal

pub last_if_watched-requires-clause-sound : goal.last_if_watched-requires-clause-sound
last_if_watched-requires-clause-sound c =
    let p = c.args.path.now.items in
    let had = subst (λ o. IfSome o (λ k. HasHad c.args.tree p (c.args.count - 2) c.args.watched (kept_of k) c.go_before.new.tree)) c.in-Some.is c.in_ok-kept.ensures.some in
    subst IsSound (sym c.in_ok-copy.ensures.equal) (had_sound c.args.tree c.go_before.new.tree p (c.args.count - 2) c.args.watched (kept_of c.in-Some.kept) c.requires.sound had)

pub last_lines-requires-clause-sound : goal.last_lines-requires-clause-sound
last_lines-requires-clause-sound c =
    let p = c.args.path.now.items in
    let had = subst (λ o. IfSome o (λ k. HasHad c.args.tree p (c.args.count - 2) c.args.watched (kept_of k) c.go_before.new.tree)) c.in-Some.is c.in_ok-kept.ensures.some in
    subst IsSound (sym c.copy_tree.ensures.same) (had_sound c.args.tree c.go_before.new.tree p (c.args.count - 2) c.args.watched (kept_of c.in-Some.kept) c.requires.sound had)
