use Rattle.std.proofs.Common.{◌<◌, subst}
use Rattle.node_places.specs.Places.{Places, place_of}
use Rattle.node_places.proofs.Placed.{place_below}
use Rattle.node_places.proofs.places.Places.are_nodes.Goals as goal

pub returns : goal.returns
returns c = λ p. subst (λ (s : Places). place_of s p < s.nodes) c.self.view_is (place_below _ p c.self.invariant)
