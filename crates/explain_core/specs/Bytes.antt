-- Bytes of memory that are shown as well, as text: lines of sixteen, of which the last may have fewer.
-- Our choice: the text.
use Rattle.std.specs.Prelude.{ℕ, ◌+◌, ◌-◌, ◌*◌, ◌^◌, min, List, [], ◌∷◌, ◌++◌, Option, Some, None, codes}
use Rattle.std.specs.Int.{div_ceil}
use Rattle.std.specs.List.{flat_map, range_with_len}
use Rattle.memory_model.specs.Memory.{Memory, byte_at}
use Rattle.report_model.specs.Report.{hex8}
use Rattle.explain_core.specs.Hex.{hex2}
use Rattle.explain_core.specs.declared.bytes.Bytes.{Bytes}

-- the byte at an address, behind a space
abbrev pub byte_text : Memory → ℕ → List ℕ
byte_text m a = 32 ∷ hex2 (byte_at m a)

-- so many bytes from an address on
abbrev pub row_bytes : Memory → ℕ → ℕ → List ℕ
row_bytes m a n = flat_map (byte_text m) (range_with_len a n)

-- a line: the first address, and the bytes
abbrev pub row_text : Memory → ℕ → ℕ → List ℕ
row_text m a n = codes "bytes " ++ (hex8 a ++ (row_bytes m a n ++ 10 ∷ []))

-- of so many bytes from an address on, the line behind so many others
abbrev pub row_behind : Memory → ℕ → ℕ → ℕ → List ℕ
row_behind m a n row = row_text m (a + 16 * row) (min (n - 16 * row) 16)

-- how many lines so many bytes take
abbrev pub rows : ℕ → ℕ
rows n = div_ceil n 16

abbrev pub rows_text : Memory → ℕ → ℕ → List ℕ
rows_text m a n = flat_map (row_behind m a n) (range_with_len 0 (rows n))

-- those that are wanted, as far as there are addresses
abbrev pub bytes_text : Memory → Option Bytes → List ℕ
bytes_text m None = []
bytes_text m (Some b) = rows_text m b.address (min b.count (2 ^ 32 - b.address))
