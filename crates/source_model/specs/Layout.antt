-- Where the bytes of lines stand, and what labels are worth.
-- Our choice: a restatement for proofs: how far lines come.
use Rattle.std.specs.Prelude.{ℕ, ◌+◌, ◌*◌, ◌/◌, ◌%◌, ◌^◌, Bool, ◌&&◌, ◌||◌, nat_lt, nat_le, ◌==◌, List, [], ◌∷◌, Option, Some, None, Ok, Err, if◌then◌else◌}
use Rattle.memory_model.specs.Sizes.{page_size}
use Rattle.image_model.specs.declared.format.Format.TheVariants as formats
use Rattle.image_model.specs.Image.{greatest_byte}
use Rattle.source_model.specs.declared.statement.Statement.{Statement}
use Rattle.source_model.specs.declared.statement.Statement.TheVariants.{Nothing, Plain, Branch, Jump, LoadImmediate, Segment, Dti2, Entry, Stack, Word, Byte, Zero}
use Rattle.source_model.specs.declared.statement.Layout.{Layout}
use Rattle.source_model.specs.declared.statement.Definition.{Definition}
use Rattle.source_model.specs.Bytes.{lines_of}
use Rattle.source_model.specs.Statement.{Read}
use Rattle.source_model.specs.Line.{statement_in, defines}

-- how many bytes a statement has
abbrev pub size_of : Statement → ℕ
size_of Nothing = 0
size_of (Plain i) = 4
size_of (Branch c a b t) = 4
size_of (Jump r t) = 4
size_of (LoadImmediate r v) = 8
size_of (Segment a p) = 0
size_of Dti2 = 0
size_of (Entry v) = 0
size_of (Stack v) = 0
size_of (Word v) = 4
size_of (Byte n) = 1
size_of (Zero n) = n

abbrev pub start : Layout
start = record { format = formats.Dti1; reached = None; used = 0; begun = 0 }

-- the address reached, 0 where no segment has begun
abbrev pub address_in : Option ℕ → ℕ
address_in None = 0
address_in (Some a) = a % 2 ^ 32

-- bytes before any segment or past the last address
abbrev pub bytes_out_of_place : Option ℕ → ℕ → Bool
bytes_out_of_place None n = nat_lt 0 n
bytes_out_of_place (Some a) n = nat_lt 0 n && nat_lt (2 ^ 32) (a + n)

-- a permission that the format cannot write, a first page that is not above the last page with bytes, a segment after 64 others
abbrev pub segment_out_of_place : Layout → ℕ → ℕ → Bool
segment_out_of_place here a p = nat_lt (greatest_byte here.format) p || nat_lt (a / page_size * page_size) here.used || nat_le 64 here.begun

-- bytes, a segment, or a format behind a segment
abbrev pub is_out_of_place : Layout → Statement → Bool
is_out_of_place here (Segment a p) = segment_out_of_place here a p
is_out_of_place here Dti2 = nat_lt 0 here.begun
is_out_of_place here s = bytes_out_of_place here.reached (size_of s)

-- so many bytes further
abbrev pub further : Option ℕ → Layout → ℕ → Layout
further None here n = here
further (Some a) here n = if n == 0 then here else record here { reached = Some (a + n); used = a + n }

abbrev pub after : Layout → Statement → Layout
after here (Segment a p) = record here { reached = Some a; begun = here.begun + 1 }
after here Dti2 = record here { format = formats.Dti2 }
after here s = further here.reached here (size_of s)

-- a line with a fault of its own, or that is misplaced, has no bytes and begins no segment
abbrev pub with_read : Layout → Read → Layout
with_read here (Err kind) = here
with_read here (Ok s) = if is_out_of_place here s.0 then here else after here s.0

unfoldable pub next : Layout → List ℕ → Layout
next here line = with_read here (statement_in line)

-- the first line that defines a label, and its value: the address reached before the line's statement
unfoldable pub definition_in : ℕ → Layout → List (List ℕ) → List ℕ → Option Definition
definition_in number here [] name = None
definition_in number here (l ∷ ls) name = if defines name l then Some (record { line = number; value = address_in here.reached }) else definition_in (number + 1) (next here l) ls name

unfoldable pub definitions : List ℕ → List ℕ → Option Definition
definitions text name = definition_in 1 start (lines_of text) name
