-- A frame read from left to right, with the first fault that is met, at the offset of its field.
-- Our choice: the order of the tests, and the offset of each fault.
use Rattle.std.specs.Prelude.{◌≡◌, ℕ, ◌+◌, ◌<◌, ◌==◌, List, length, slice_index, take, drop, Result, Ok, Err, nat_lt, if◌then◌else◌}
use Rattle.std.specs.Int.{Width, w32, w64, byte_len, from_le_bytes}
use Rattle.link_model.specs.declared.error.FrameError.{FrameError}
use Rattle.link_model.specs.declared.error.FrameErrorKind.{FrameErrorKind}
use Rattle.link_model.specs.declared.error.FrameErrorKind.TheVariants.{Truncated, Magic, Ahead, Trailing}
use Rattle.link_model.specs.Frame.{data_mark, receipt_mark, no_number}

-- numbers that are bytes
abbrev pub IsBytes : List ℕ → Type 0
IsBytes bytes = (i : ℕ) → slice_index bytes i < 256

-- reading goes on after a value, and stops at a fault
infixl 10 ◌>>=◌
abbrev pub ◌>>=◌ : {A B : Type 0} → Result A FrameError → (A → Result B FrameError) → Result B FrameError
(Ok x) >>= f = f x
(Err e) >>= f = Err e

abbrev pub fault : {A : Type 0} → ℕ → FrameErrorKind → Result A FrameError
fault at kind = Err (record { at = at; kind = kind })

-- what a reader returned is what reading gives
abbrev pub Reads : {X Y : Type 0} → (X → Y) → Result X FrameError → Result Y FrameError → Type 0
Reads view (Ok x) read = read ≡ Ok (view x)
Reads view (Err e) read = read ≡ Err e

-- ---- fields: the value of one that stands at this offset, and the bytes after it

abbrev pub number_at : Width → ℕ → List ℕ → Result (ℕ × List ℕ) FrameError
number_at w at bytes = if nat_lt (length bytes) (byte_len w) then fault at Truncated else Ok (from_le_bytes w (take (byte_len w) bytes), drop (byte_len w) bytes)

-- the bytes after this mark
abbrev pub mark_at : List ℕ → ℕ → List ℕ → Result (List ℕ) FrameError
mark_at mark at bytes = do
  n ← number_at w32 at bytes
  if n.0 == from_le_bytes w32 mark then Ok n.1 else fault at Magic

-- the number of a parcel
abbrev pub data_number_at : ℕ → List ℕ → Result (ℕ × List ℕ) FrameError
data_number_at at bytes = do
  n ← number_at w64 at bytes
  if n.0 == no_number then fault at Ahead else Ok n

-- the number of a receipt, where so many parcels were offered
abbrev pub receipt_number_at : ℕ → ℕ → List ℕ → Result (ℕ × List ℕ) FrameError
receipt_number_at offered at bytes = do
  n ← number_at w64 at bytes
  if nat_lt offered n.0 then fault at Ahead else Ok n

-- so many bytes, and no more
abbrev pub rest_at : ℕ → ℕ → List ℕ → Result (List ℕ) FrameError
rest_at size at bytes = if nat_lt (length bytes) size then fault at Truncated else if nat_lt size (length bytes) then fault (at + size) Trailing else Ok bytes

-- ---- frames

-- a parcel with its number
unfoldable pub data_of : List ℕ → Result (ℕ × List ℕ) FrameError
data_of bytes = do
  m ← mark_at data_mark 0 bytes
  n ← data_number_at 4 m
  l ← number_at w64 12 n.1
  p ← rest_at l.0 20 l.1
  Ok (n.0, p)

-- the number of a receipt, where so many parcels were offered
unfoldable pub receipt_of : ℕ → List ℕ → Result ℕ FrameError
receipt_of offered bytes = do
  m ← mark_at receipt_mark 0 bytes
  n ← receipt_number_at offered 4 m
  e ← rest_at 0 12 n.1
  Ok n.0
