use Rattle.std.proofs.Common.{subst}
use Rattle.space_model.specs.Sound.{IsSound}
use Rattle.node_places.specs.Places.{all_home}
use Rattle.board.specs.Value.{Shown}
use Rattle.board.proofs.Histories.{legal_sound}
use Rattle.board.proofs.board.Board.jobs_go_on.Goals as goal

pub returns-clause-sound : goal.returns-clause-sound
returns-clause-sound c =
    let b = c.self.inside in
    let kept = c.self.invariant in
    subst (λ (s : Shown). IsSound s.tree) c.self.view_is (legal_sound b.history.items b.boot b.tree (all_home b.lists.run.places.nodes) b.lists.run.places kept.legal kept.sound)
