-- A link from one node to another, as a list of what happened on it. What is never chosen is lost; what is chosen again comes twice, and late.
-- Source: OSDI 2010, "Efficient System-Enforced Deterministic Parallelism", the section on distribution: spaces migrate over a network that loses. RFC 793,
-- "Transmission Control Protocol": numbers, receipts and a window.
-- Our choice: the events, and that sixteen parcels may be without their receipt.
use Rattle.std.specs.Prelude.{◌≡◌, ℕ, ◌+◌, ◌≤◌, ◌==◌, ◌&&◌, not, List, [], ◌∷◌, ◌++◌, length, take, drop, slice_get, Option, Some, None, Bool, nat_lt, max, if◌then◌else◌}
use Rattle.link_model.specs.Frame.{no_number, window}

-- the parcels that were offered and those that arrived, each in its order; the numbers of the frames and of the receipts that were sent, in the order of
-- sending; how many parcels have their receipt
pub record Link : Type 0 where
  pub sent : List (List ℕ)
  pub delivered : List (List ℕ)
  pub frames : List ℕ
  pub receipts : List ℕ
  pub base : ℕ

pub data Event : Type 0 where
  -- a parcel is offered
  offer : List ℕ → Event
  -- the frame of the parcel of this number is sent
  send : ℕ → Event
  -- the frame that was sent as the one of this place comes
  arrive : ℕ → Event
  -- a receipt is sent
  answer : Event
  -- the receipt that was sent as the one of this place comes
  receipt : ℕ → Event

abbrev pub may_offer : Link → Bool
may_offer w = nat_lt (length w.sent) (w.base + window) && nat_lt (length w.sent) no_number

abbrev pub may_send : ℕ → Link → Bool
may_send n w = not (nat_lt n w.base) && nat_lt n (length w.sent)

-- a frame of this number comes: its parcel is delivered where it is the next one
abbrev pub after_frame : Option ℕ → Link → Link
after_frame None w = w
after_frame (Some n) w = if n == length w.delivered then record w { delivered = w.delivered ++ take 1 (drop n w.sent) } else w

abbrev pub after_receipt : Option ℕ → Link → Link
after_receipt None w = w
after_receipt (Some n) w = record w { base = max w.base n }

abbrev pub after : Event → Link → Link
after (offer parcel) w = if may_offer w then record w { sent = w.sent ++ parcel ∷ [] } else w
after (send n) w = if may_send n w then record w { frames = w.frames ++ n ∷ [] } else w
after (arrive k) w = after_frame (slice_get w.frames k) w
after answer w = record w { receipts = w.receipts ++ length w.delivered ∷ [] }
after (receipt k) w = after_receipt (slice_get w.receipts k) w

abbrev pub after_all : List Event → Link → Link
after_all [] w = w
after_all (e ∷ es) w = after_all es (after e w)

-- nothing is on its way: all that was sent has arrived and has its receipt. A link begins so, with nothing sent
abbrev pub at_rest : List (List ℕ) → Link
at_rest parcels = record { sent = parcels; delivered = parcels; frames = []; receipts = []; base = length parcels }

-- what was delivered is the beginning of what was sent
abbrev pub IsBeginning : List (List ℕ) → List (List ℕ) → Type 0
IsBeginning xs ys = (rest : List (List ℕ)) × (ys ≡ xs ++ rest)

pub record IsInOrder (w : Link) : Type 0 where
  pub delivered : IsBeginning w.delivered w.sent
  pub base : w.base ≤ length w.delivered
