-- An image read from left to right, with the first fault that is met, at the offset of its field.
-- Our choice: the order of the tests, and the offset of each fault.
use Rattle.std.specs.Prelude.{ℕ, zero, suc, ◌+◌, ◌/◌, ◌^◌, ◌<◌, List, [], ◌∷◌, length, slice_index, take, drop, Result, Ok, Err, nat_lt, ◌==◌, if◌then◌else◌}
use Rattle.std.specs.Int.{Width, w16, w32, byte_len, from_le_bytes}
use Rattle.image_model.specs.declared.error.ImageError.{ImageError}
use Rattle.image_model.specs.declared.error.ImageErrorKind.{ImageErrorKind}
use Rattle.image_model.specs.declared.error.ImageErrorKind.TheVariants.{Truncated, Magic, Count, Order, Permission, Length, Range, Trailing}
use Rattle.memory_model.specs.Sizes.{page_size}
use Rattle.image_model.specs.declared.format.Format.{Format}
use Rattle.image_model.specs.declared.format.Format.TheVariants.{Dti1, Dti2}
use Rattle.image_model.specs.Image.{Image, Segment, mark, greatest_byte, permission_of, last_page}

-- numbers that are bytes
abbrev pub IsBytes : List ℕ → Type 0
IsBytes bytes = (i : ℕ) → slice_index bytes i < 256

-- reading goes on after a value, and stops at a fault
infixl 10 ◌>>=◌
abbrev pub ◌>>=◌ : {A B : Type 0} → Result A ImageError → (A → Result B ImageError) → Result B ImageError
(Ok x) >>= f = f x
(Err e) >>= f = Err e

abbrev pub fault : {A : Type 0} → ℕ → ImageErrorKind → Result A ImageError
fault at kind = Err (record { at = at; kind = kind })

-- ---- fields: the value of one that stands at this offset, and the bytes after it

abbrev pub number_at : Width → ℕ → List ℕ → Result (ℕ × List ℕ) ImageError
number_at w at bytes = if nat_lt (length bytes) (byte_len w) then fault at Truncated else Ok (from_le_bytes w (take (byte_len w) bytes), drop (byte_len w) bytes)

-- so many bytes
abbrev pub content_at : ℕ → ℕ → List ℕ → Result (List ℕ × List ℕ) ImageError
content_at n at bytes = if nat_lt (length bytes) n then fault at Truncated else Ok (take n bytes, drop n bytes)

abbrev pub magic_at : ℕ → List ℕ → Result (Format × List ℕ) ImageError
magic_at at bytes = do
  n ← number_at w32 at bytes
  if n.0 == from_le_bytes w32 (mark Dti1) then Ok (Dti1, n.1) else if n.0 == from_le_bytes w32 (mark Dti2) then Ok (Dti2, n.1) else fault at Magic

abbrev pub count_at : ℕ → List ℕ → Result (ℕ × List ℕ) ImageError
count_at at bytes = do
  n ← number_at w16 at bytes
  if nat_lt 64 n.0 then fault at Count else Ok n

-- an address in this page or above it
abbrev pub address_at : ℕ → ℕ → List ℕ → Result (ℕ × List ℕ) ImageError
address_at page at bytes = do
  n ← number_at w32 at bytes
  if nat_lt (n.0 / page_size) page then fault at Order else Ok n

unfoldable pub permission_at : Format → ℕ → List ℕ → Result (ℕ × List ℕ) ImageError
permission_at format at [] = fault at Truncated
permission_at format at (byte ∷ rest) = if nat_lt (greatest_byte format) byte then fault at Permission else Ok (permission_of format byte, rest)

abbrev pub length_at : ℕ → ℕ → List ℕ → Result (ℕ × List ℕ) ImageError
length_at address at bytes = do
  n ← number_at w32 at bytes
  if n.0 == 0 then fault at Length else if nat_lt (2 ^ 32) (address + n.0) then fault at Range else Ok n

-- ---- segments and images

-- a segment that begins in this page or above it
unfoldable pub segment_at : Format → ℕ → ℕ → List ℕ → Result (Segment × List ℕ) ImageError
segment_at format page at bytes = do
  a ← address_at page at bytes
  p ← permission_at format (at + 4) a.1
  n ← length_at a.0 (at + 5) p.1
  c ← content_at n.0 (at + 9) n.1
  Ok (record { address = a.0; permission = p.0; content = c.0 }, c.1)

-- so many segments from this page on, and nothing after them
unfoldable pub segments_at : Format → ℕ → ℕ → ℕ → List ℕ → Result (List Segment) ImageError
segments_at format zero page at [] = Ok []
segments_at format zero page at (b ∷ bytes) = fault at Trailing
segments_at format (suc n) page at bytes = do
  s ← segment_at format page at bytes
  others ← segments_at format n (last_page s.0 + 1) (at + 9 + length s.0.content) s.1
  Ok (s.0 ∷ others)

-- the image that all of the bytes are, or their first fault
unfoldable pub image_of : List ℕ → Result Image ImageError
image_of bytes = do
  m ← magic_at 0 bytes
  e ← number_at w32 4 m.1
  s ← number_at w32 8 e.1
  c ← count_at 12 s.1
  ss ← segments_at m.0 c.0 0 14 c.1
  Ok (record { entry = e.0; stack = s.0; segments = ss })
