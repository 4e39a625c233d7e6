-- A parcel read from left to right, with the first fault that is met, at the offset of its field.
-- Our choice: the order of the tests, and the offset of each fault.
use Rattle.std.specs.Prelude.{ℕ, zero, suc, ◌+◌, ◌%◌, ◌^◌, ◌<◌, ◌==◌, ◌&&◌, not, List, [], ◌∷◌, length, slice_index, take, drop, Option, Some, None, Result, Ok, Err, nat_lt, if◌then◌else◌}
use Rattle.std.specs.Int.{Width, w32, byte_len, from_le_bytes}
use Rattle.memory_model.specs.Sizes.{page_size, pages, greatest_permission}
use Rattle.call_model.specs.declared.Block.{Block}
use Rattle.space_model.specs.Space.{Top}
use Rattle.parcel_model.specs.declared.error.ParcelError.{ParcelError}
use Rattle.parcel_model.specs.declared.error.ParcelErrorKind.{ParcelErrorKind}
use Rattle.parcel_model.specs.declared.error.ParcelErrorKind.TheVariants.{Truncated, Magic, Status, Flags, Limit, Fuel, Page, Permission, Form, Resident, Zero, Trailing}
use Rattle.parcel_model.specs.Parcel.{Content, empty, resident, whole, Entry, Parcel, mark, page_in, is_zero, is_stop, top_in}

-- numbers that are bytes
abbrev pub IsBytes : List ℕ → Type 0
IsBytes bytes = (i : ℕ) → slice_index bytes i < 256

-- reading goes on after a value, and stops at a fault
infixl 10 ◌>>=◌
abbrev pub ◌>>=◌ : {A B : Type 0} → Result A ParcelError → (A → Result B ParcelError) → Result B ParcelError
(Ok x) >>= f = f x
(Err e) >>= f = Err e

abbrev pub fault : {A : Type 0} → ℕ → ParcelErrorKind → Result A ParcelError
fault at kind = Err (record { at = at; kind = kind })

-- ---- fields: the value of one that stands at this offset, and the bytes after it

abbrev pub byte_at : ℕ → List ℕ → Result (ℕ × List ℕ) ParcelError
byte_at at [] = fault at Truncated
byte_at at (byte ∷ rest) = Ok (byte, rest)

abbrev pub number_at : Width → ℕ → List ℕ → Result (ℕ × List ℕ) ParcelError
number_at w at bytes = if nat_lt (length bytes) (byte_len w) then fault at Truncated else Ok (from_le_bytes w (take (byte_len w) bytes), drop (byte_len w) bytes)

-- the bytes after the mark
abbrev pub magic_at : ℕ → List ℕ → Result (List ℕ) ParcelError
magic_at at bytes = do
  n ← number_at w32 at bytes
  if n.0 == from_le_bytes w32 mark then Ok n.1 else fault at Magic

-- so many words
unfoldable pub words_at : ℕ → ℕ → List ℕ → Result (List ℕ × List ℕ) ParcelError
words_at zero at bytes = Ok ([], bytes)
words_at (suc n) at bytes = do
  w ← number_at w32 at bytes
  others ← words_at n (at + 4) w.1
  Ok (w.0 ∷ others.0, others.1)

-- the number of a cause, or 22
abbrev pub cause_at : ℕ → List ℕ → Result (ℕ × List ℕ) ParcelError
cause_at at bytes = do
  n ← number_at w32 at bytes
  if is_stop n.0 then Ok n else fault at Status

-- the value that came with the cause; 0 with 22
abbrev pub value_at : ℕ → ℕ → List ℕ → Result (ℕ × List ℕ) ParcelError
value_at cause at bytes = do
  n ← number_at w32 at bytes
  if cause == 22 && not (n.0 == 0) then fault at Status else Ok n

unfoldable pub block_at : ℕ → List ℕ → Result (Block × List ℕ) ParcelError
block_at at bytes = do
  pc ← number_at w32 at bytes
  x ← words_at 31 (at + 4) pc.1
  c ← cause_at (at + 128) x.1
  v ← value_at c.0 (at + 132) c.1
  Ok (record { pc = pc.0; x = x.0; cause = c.0; value = v.0 }, v.1)

-- from 0 to 3: 1 for a snapshot, 2 for a limit
abbrev pub flags_at : ℕ → List ℕ → Result (ℕ × List ℕ) ParcelError
flags_at at bytes = do
  n ← byte_at at bytes
  if nat_lt 3 n.0 then fault at Flags else Ok n

-- the limit where the flags tell of one; else the number is 0
abbrev pub limit_at : ℕ → ℕ → List ℕ → Result (Option ℕ × List ℕ) ParcelError
limit_at flags at bytes = do
  n ← number_at w32 at bytes
  if nat_lt 1 flags then Ok (Some n.0, n.1) else if n.0 == 0 then Ok (None, n.1) else fault at Limit

-- what was used, where so much fuel is left
abbrev pub used_at : ℕ → ℕ → List ℕ → Result (ℕ × List ℕ) ParcelError
used_at fuel at bytes = do
  n ← number_at w32 at bytes
  if fuel + n.0 == 0 then fault at Fuel else if nat_lt (fuel + n.0) (2 ^ 32) then Ok n else fault at Fuel

-- ---- pages

-- this page or one above it
abbrev pub page_at : ℕ → ℕ → List ℕ → Result (ℕ × List ℕ) ParcelError
page_at least at bytes = do
  n ← number_at w32 at bytes
  if nat_lt n.0 least then fault at Page else if nat_lt n.0 pages then Ok n else fault at Page

abbrev pub permission_at : ℕ → List ℕ → Result (ℕ × List ℕ) ParcelError
permission_at at bytes = do
  n ← byte_at at bytes
  if nat_lt greatest_permission n.0 then fault at Permission else Ok n

-- no bytes, of a page with a permission; this is the offset of its form
abbrev pub empty_at : ℕ → ℕ → List ℕ → Result (Content × List ℕ) ParcelError
empty_at permission at rest = if permission == 0 then fault at Zero else Ok (empty, rest)

-- the number of a resident page that has a byte other than 0
abbrev pub resident_at : List (List ℕ) → ℕ → List ℕ → Result (Content × List ℕ) ParcelError
resident_at known at bytes = do
  n ← number_at w32 at bytes
  if is_zero (page_in known n.0) then fault at Resident else Ok (resident n.0, n.1)

-- the bytes of a page, not all 0
abbrev pub whole_at : ℕ → List ℕ → Result (Content × List ℕ) ParcelError
whole_at at bytes = if nat_lt (length bytes) page_size then fault at Truncated else if is_zero (take page_size bytes) then fault at Zero else Ok (whole (take page_size bytes), drop page_size bytes)

-- a form, and what it tells of a page with this permission
abbrev pub form_in : List (List ℕ) → ℕ → ℕ → ℕ → List ℕ → Result (Content × List ℕ) ParcelError
form_in known permission form at rest =
    if form == 0 then empty_at permission at rest
    else if form == 1 then resident_at known (at + 1) rest
    else if form == 2 then whole_at (at + 1) rest
    else fault at Form

abbrev pub content_at : List (List ℕ) → ℕ → ℕ → List ℕ → Result (Content × List ℕ) ParcelError
content_at known permission at bytes = do
  form ← byte_at at bytes
  form_in known permission form.0 at form.1

unfoldable pub entry_at : List (List ℕ) → ℕ → ℕ → List ℕ → Result (Entry × List ℕ) ParcelError
entry_at known least at bytes = do
  n ← page_at least at bytes
  p ← permission_at (at + 4) n.1
  c ← content_at known p.0 (at + 5) p.1
  Ok (record { page = n.0; permission = p.0; content = c.0 }, c.1)

-- how many bytes the content takes
abbrev pub content_size : Content → ℕ
content_size empty = 0
content_size (resident number) = 4
content_size (whole bytes) = page_size

-- and with them page, permission and form
abbrev pub entry_size : Entry → ℕ
entry_size e = 6 + content_size e.content

-- so many pages from this one on; the offset of what comes after them, and the bytes from there on
unfoldable pub entries_at : List (List ℕ) → ℕ → ℕ → ℕ → List ℕ → Result (List Entry × ℕ × List ℕ) ParcelError
entries_at known zero least at bytes = Ok ([], at, bytes)
entries_at known (suc n) least at bytes = do
  e ← entry_at known least at bytes
  others ← entries_at known n (e.0.page + 1) (at + entry_size e.0) e.1
  Ok (e.0 ∷ others.0, others.1, others.2)

-- the count, and the pages
unfoldable pub memory_at : List (List ℕ) → ℕ → List ℕ → Result (List Entry × ℕ × List ℕ) ParcelError
memory_at known at bytes = do
  n ← number_at w32 at bytes
  entries_at known n.0 0 (at + 4) n.1

-- a second memory where the flags tell of one
unfoldable pub snapshot_at : List (List ℕ) → ℕ → ℕ → List ℕ → Result (Option (List Entry) × ℕ × List ℕ) ParcelError
snapshot_at known flags at bytes = if flags % 2 == 0 then Ok (None, at, bytes) else do
  m ← memory_at known at bytes
  Ok (Some m.0, m.1, m.2)

-- a value, where nothing stands after it
abbrev pub ended : {A : Type 0} → A → ℕ → List ℕ → Result A ParcelError
ended x at [] = Ok x
ended x at (byte ∷ rest) = fault at Trailing

-- ---- parcels and tops

-- the parcel that all of the bytes are, or their first fault
unfoldable pub parcel_at : List (List ℕ) → List ℕ → Result Parcel ParcelError
parcel_at known bytes = do
  m ← magic_at 0 bytes
  b ← block_at 4 m
  f ← flags_at 140 b.1
  l ← limit_at f.0 141 f.1
  n ← number_at w32 145 l.1
  u ← used_at n.0 149 n.1
  o ← memory_at known 153 u.1
  s ← snapshot_at known f.0 o.1 o.2
  ended (record { block = b.0; limit = l.0; fuel = n.0; used = u.0; memory = o.0; snapshot = s.0 }) s.1 s.2

-- the top that the parcel means
unfoldable pub top_at : List (List ℕ) → List ℕ → Result Top ParcelError
top_at known bytes = do
  p ← parcel_at known bytes
  Ok (top_in known p)
