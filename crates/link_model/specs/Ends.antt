-- The two ends of a link, by what they keep: a sender the parcels that have no receipt yet, a receiver the number that it awaits next. What each method does
-- to its end, and of which links an end is one.
-- Our choice: a restatement for contracts.
use Rattle.std.specs.Prelude.{◌≡◌, ℕ, ◌+◌, ◌-◌, ◌≤◌, ◌==◌, List, [], ◌∷◌, ◌++◌, length, drop, slice_get, Option, Some, None, option_map, Result, Ok, Err, nat_lt, max, if◌then◌else◌}
use Rattle.link_model.specs.declared.error.FrameError.{FrameError}
use Rattle.link_model.specs.Reading.{data_of}
use Rattle.link_model.specs.Frame.{no_number, window, data_bytes}
use Rattle.link_model.specs.Link.{Link}

-- how many parcels have their receipt, and those behind them
pub record Sending : Type 0 where
  pub base : ℕ
  pub kept : List (List ℕ)

-- how many were offered
abbrev pub offered_to : Sending → ℕ
offered_to s = s.base + length s.kept

-- an end has room for what it keeps, and for its numbers
pub record IsSending (s : Sending) : Type 0 where
  pub few : length s.kept ≤ window
  pub numbered : offered_to s ≤ no_number

-- it is the sender of a link: it keeps what was sent behind the parcels that have their receipt, whatever these are
pub record IsSenderOf (w : Link) (s : Sending) : Type 0 where
  pub base : w.base ≡ s.base
  pub before : List (List ℕ)
  pub counted : length before ≡ s.base
  pub sent : w.sent ≡ before ++ s.kept

-- behind an offer that was taken
abbrev pub with_parcel : List ℕ → Sending → Sending
with_parcel parcel s = record s { kept = s.kept ++ parcel ∷ [] }

-- the parcel of a number, where it was offered and has no receipt yet
abbrev pub kept_at : ℕ → Sending → Option (List ℕ)
kept_at n s = if nat_lt n s.base then None else slice_get s.kept (n - s.base)

-- its frame
abbrev pub frame_at : ℕ → Sending → Option (List ℕ)
frame_at n s = option_map (data_bytes n) (kept_at n s)

-- behind a receipt of this number
abbrev pub with_receipt : ℕ → Sending → Sending
with_receipt n s = record { base = max s.base n; kept = drop (n - s.base) s.kept }

-- what comes of a parcel that arrives under a number, where this one is awaited
abbrev pub taken_at : ℕ → ℕ × List ℕ → Option (List ℕ)
taken_at awaited frame = if frame.0 == awaited then Some frame.1 else None

-- the same of the bytes of a frame
abbrev pub taken_of : ℕ → Result (ℕ × List ℕ) FrameError → Result (Option (List ℕ)) FrameError
taken_of awaited (Ok frame) = Ok (taken_at awaited frame)
taken_of awaited (Err e) = Err e

abbrev pub read_at : ℕ → List ℕ → Result (Option (List ℕ)) FrameError
read_at awaited bytes = taken_of awaited (data_of bytes)

-- what is delivered by it
abbrev pub one_of : Option (List ℕ) → List (List ℕ)
one_of None = []
one_of (Some parcel) = parcel ∷ []

-- the number that is awaited then
abbrev pub awaited_after : ℕ → Option (List ℕ) → ℕ
awaited_after awaited None = awaited
awaited_after awaited (Some parcel) = awaited + 1
