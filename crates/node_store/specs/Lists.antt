-- Nodes: their lists of resident pages, and what a parcel that is sent leaves in them; the links between them, where they have some, and what a parcel that is carried leaves there.
-- Source: OSDI 2010, "Efficient System-Enforced Deterministic Parallelism", "Distribution via Space Migration".
-- Our choice: both ends keep the pages whose bytes were sent.
use Rattle.std.specs.Prelude.{◌≡◌, ℕ, ◌*◌, List, [], Option, None, Some, Result, Ok, option_map, replicate, slice_index_or, slice_set}
use Rattle.device_model.specs.Devices.{Devices}
use Rattle.space_model.specs.Space.{Top}
use Rattle.link_model.specs.Carrying.{with_one_more}
use Rattle.node_link.specs.Linked.{Linked, link_of, most_nodes, with_link}
use Rattle.parcel_model.specs.declared.error.ParcelError.{ParcelError}
use Rattle.parcel_model.specs.Packing.{parcel_of}
use Rattle.parcel_model.specs.Reading.{◌>>=◌, top_at}
use Rattle.parcel_model.specs.Residents.{with_residents}
use Rattle.parcel_model.specs.Sent.{pages_sent}

-- by the number of the node the list of its pages; and the links between the nodes, where they have some
pub record NodesView : Type 0 where
  pub lists : List (List (List ℕ))
  pub links : Option Linked

-- so many nodes without pages
abbrev pub without_links : ℕ → NodesView
without_links nodes = record { lists = replicate nodes []; links = None }

-- and with a link between each two, over which nothing has gone
abbrev pub with_links : ℕ → ℕ → NodesView
with_links nodes seed = record { lists = replicate nodes []; links = Some (record { seed = seed; nodes = nodes; links = replicate (nodes * most_nodes) None }) }

-- the links behind a parcel from one node to another, where there are any: one more has gone over the link of these two
abbrev pub carried_over : Option Linked → ℕ → ℕ → Option Linked
carried_over links from to = option_map (λ l. with_link l from to (with_one_more (link_of l from to))) links

-- links, where there are any, are between so many nodes
abbrev pub AreLinked : ℕ → Option Linked → Type 0
AreLinked nodes None = Unit {0}
AreLinked nodes (Some l) = l.nodes ≡ nodes

-- the list of a node; past the nodes there are no pages
abbrev pub list_of : List (List (List ℕ)) → ℕ → List (List ℕ)
list_of nodes node = slice_index_or nodes node []

-- with these pages added at both ends
abbrev pub with_both : List (List (List ℕ)) → ℕ → ℕ → List (List ℕ) → List (List (List ℕ))
with_both nodes from to pages = slice_set (slice_set nodes to (with_residents (list_of nodes to) pages)) from (with_residents (list_of nodes from) pages)

-- a top was sent from one node to another
abbrev pub after_sending : List (List (List ℕ)) → ℕ → ℕ → Top → List (List (List ℕ))
after_sending nodes from to t = with_both nodes from to (pages_sent (parcel_of (list_of nodes to) t))

-- a top with devices, or without
abbrev pub with_devices : Option Devices → Top → Top
with_devices devices t = record t { devices = devices }

-- the top that bytes mean over a list, with devices, or their first fault
abbrev pub received : List (List ℕ) → List ℕ → Option Devices → Result Top ParcelError
received known bytes devices = do
  t ← top_at known bytes
  Ok (with_devices devices t)
