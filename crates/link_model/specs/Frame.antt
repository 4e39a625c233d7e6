-- Frames, by which parcels travel over a link that loses, repeats and reorders: a parcel with its number, and a receipt, which tells the number that is
-- awaited next.
-- Source: RFC 793, "Transmission Control Protocol": data that is numbered, and a receipt that names the next number.
-- Our choice: the format. Numbers are little endian.
use Rattle.std.specs.Prelude.{◌≡◌, ℕ, ◌≤◌, ◌<◌, List, ◌++◌, length, codes}
use Rattle.std.specs.Int.{w64, to_le_bytes}

abbrev pub data_mark : List ℕ
data_mark = codes "DTD1"

abbrev pub receipt_mark : List ℕ
receipt_mark = codes "DTK1"

-- the number that no parcel has: so many are offered at most
abbrev pub no_number : ℕ
no_number = 18446744073709551615

-- the most parcels that a sender keeps without their receipt
abbrev pub window : ℕ
window = 16

-- the one spelling of a parcel with its number
abbrev pub data_bytes : ℕ → List ℕ → List ℕ
data_bytes number parcel = data_mark ++ to_le_bytes w64 number ++ to_le_bytes w64 (length parcel) ++ parcel

-- and of a receipt
abbrev pub receipt_bytes : ℕ → List ℕ
receipt_bytes number = receipt_mark ++ to_le_bytes w64 number

pub record IsData (bytes : List ℕ) (number : ℕ) (parcel : List ℕ) : Type 0 where
  pub spelled : bytes ≡ data_bytes number parcel
  pub numbered : number < no_number

-- a receipt that may come where so many parcels were offered
pub record IsReceipt (offered : ℕ) (bytes : List ℕ) (number : ℕ) : Type 0 where
  pub spelled : bytes ≡ receipt_bytes number
  pub within : number ≤ offered
