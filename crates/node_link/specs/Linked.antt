-- The links between nodes: one for each node and each node that it sends to, made when a parcel first goes over it.
-- Our choice: that all begin with one seed.
use Rattle.std.specs.Prelude.{ℕ, ◌+◌, ◌*◌, List, Option, Some, None, slice_index_or, slice_set}
use Rattle.link_model.specs.Carrying.{Carrier, new_carrier}

-- the seed, how many nodes there are, and the links that were made, in the order of the nodes that send, and then of those that receive
pub record Linked : Type 0 where
  pub seed : ℕ
  pub nodes : ℕ
  pub links : List (Option Carrier)

-- the most nodes
abbrev pub most_nodes : ℕ
most_nodes = 64

-- where the link of two nodes stands
abbrev pub place_of : ℕ → ℕ → ℕ
place_of from to = from * most_nodes + to

-- a link that was made, or a new one
abbrev pub made_or_new : ℕ → Option Carrier → Carrier
made_or_new seed None = new_carrier seed
made_or_new seed (Some c) = c

-- the link of two nodes
abbrev pub link_of : Linked → ℕ → ℕ → Carrier
link_of l from to = made_or_new l.seed (slice_index_or l.links (place_of from to) None)

abbrev pub with_link : Linked → ℕ → ℕ → Carrier → Linked
with_link l from to c = record l { links = slice_set l.links (place_of from to) (Some c) }
