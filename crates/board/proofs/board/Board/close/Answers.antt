use Rattle.std.proofs.Common.{◌≡◌, true, sym, subst}
use Rattle.space_model.specs.Space.{is_settled}
use Rattle.run_model.specs.Demand.{settle_tree}
use Rattle.node_places.specs.Places.{all_home}
use Rattle.board.proofs.Settling.{settled_end}
use Rattle.board.proofs.board.Board.close.Goals as goal

pub returns-clause-end : goal.returns-clause-end
returns-clause-end c =
    let b = c.self.inside in
    subst (λ boot. is_settled b.tree ≡ true → b.tree ≡ settle_tree boot) (sym c.into_space.ensures) (settled_end b.boot b.tree (all_home b.lists.run.places.nodes) b.lists.run.places b.history.items c.self.invariant.sound c.self.invariant.legal)
