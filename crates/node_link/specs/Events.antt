-- What happens on a link behind the offer of a parcel, as events of `link_model`; frames that are kept, and which turn is a parcel's first.
-- Our choice: a restatement for contracts.
use Rattle.std.specs.Prelude.{◌≡◌, ℕ, ◌<◌, ◌≤◌, ◌==◌, Bool, true, not, List, map, Option, Some, None, option_map}
use Rattle.std.specs.Global.{Vec}
use Rattle.link_model.specs.Link.{Event, send, arrive, answer, receipt}
use Rattle.node_link.specs.declared.event.LinkEvent.{LinkEvent}
use Rattle.node_link.specs.declared.event.LinkEvent.TheVariants.{Send, Arrive, Answer, Receipt}

abbrev pub event_of : LinkEvent → Event
event_of (Send n) = send n
event_of (Arrive k) = arrive k
event_of Answer = answer
event_of (Receipt k) = receipt k

abbrev pub events_of : List LinkEvent → List Event
events_of es = map event_of es

-- a turn of the parcel of this number is its first where the frame before it was none of its own
abbrev pub is_first_turn : ℕ → Option (ℕ × List ℕ) → Bool
is_first_turn n None = true
is_first_turn n (Some earlier) = not (earlier.0 == n)

-- the frame before a turn, so many having been sent: none where none was sent, and else that of an earlier parcel, or of this one
abbrev pub IsBefore : ℕ × List ℕ → ℕ → Option (ℕ × List ℕ) → Type 0
IsBefore frame frames None = frames ≡ 0
IsBefore frame frames (Some earlier) = (1 ≤ frames) × (earlier.0 ≡ frame.0 → earlier.1 ≡ frame.1)

-- the frame that was sent last, by a link over which so many parcels have gone
abbrev pub IsLast : ℕ → ℕ → Option (ℕ × List ℕ) → Type 0
IsLast carried frames None = frames ≡ 0
IsLast carried frames (Some last) = (1 ≤ frames) × (last.0 < carried)

-- the bytes of what has arrived
abbrev pub bytes_of : Option (Vec ℕ) → Option (List ℕ)
bytes_of arrived = option_map (λ v. v.items) arrived
