-- What the lines of a source mean: what each does, the segments that they fill, what labels are worth, the image, and the first
-- kind of fault of a line that follows others.
-- Our choice: the layout of segments, what labels are worth, and which fault counts.
use Rattle.std.specs.Prelude.{ℕ, ◌+◌, ◌-◌, ◌*◌, ◌/◌, ◌%◌, ◌^◌, Bool, false, not, ◌&&◌, ◌||◌, ◌==◌, nat_lt, nat_le, List, [], ◌∷◌, ◌++◌, length, slice_index, map, reverse, filter, find, fold, take_while, Option, Some, None, is_none, is_some, unwrap_or, option_map, option_and_then, option_to_list, Result, Ok, Err, if◌then◌else◌}
use Rattle.std.specs.List.{list_any}
use Rattle.std.specs.Str.{bytes_eq}
use Rattle.memory_model.specs.Sizes.{page_size}
use Rattle.image_model.specs.declared.format.Format.{Format}
use Rattle.image_model.specs.declared.format.Format.TheVariants.{Dti1}
use Rattle.image_model.specs.Image.{Segment, Image, greatest_byte, permission_of, image_bytes}
use Rattle.source_model.specs.declared.error.AsmErrorKind.{AsmErrorKind}
use Rattle.source_model.specs.declared.error.AsmErrorKind.TheVariants as kinds

-- ---- lines

-- a number of 32 bits, a label, or how far it is to a value, which has to be within a reach
pub data Value : Type 0 where
  number : ℕ → Value
  label : List ℕ → Value
  distance : ℕ → Value → Value

-- bytes stand next; a segment begins, at an address and with a permission; the root is to begin at an address; its stack pointer is given;
-- permissions are those of a format of images
pub data Effect : Type 0 where
  bytes : List ℕ → Effect
  segment : ℕ → ℕ → Effect
  entry : ℕ → Effect
  stack : ℕ → Effect
  format : Format → Effect

-- the values that a statement is written with, and what it does where the n-th of them, counted from 0, is worth so much
pub record Statement : Type 0 where
  pub values : List Value
  pub effect : (ℕ → ℕ) → Effect

-- a statement, or the first kind of fault that a line has by itself
abbrev pub Read : Type 0
Read = Result Statement AsmErrorKind

-- a line, and the label that it defines
pub record Line : Type 0 where
  pub name : Option (List ℕ)
  pub statement : Read

-- ---- what values are worth

abbrev pub Labels : Type 0
Labels = List ℕ → Option ℕ

-- at an address; none where a label has no worth. A distance is modulo 2 ^ 32
abbrev pub worth_of : Labels → ℕ → Value → Option ℕ
worth_of labels here (number n) = Some n
worth_of labels here (label name) = labels name
worth_of labels here (distance reach v) = option_map (λ target. (target + (2 ^ 32 - here)) % 2 ^ 32) (worth_of labels here v)

-- what a statement does at an address; what has no worth counts as 0
abbrev pub effect_of : Labels → ℕ → Statement → Effect
effect_of labels here s = s.effect (slice_index (map (λ v. unwrap_or (worth_of labels here v) 0) s.values))

-- ---- what lines make

-- the format whose permissions segments have, the segments that have begun, the last one first, and the last entry and stack pointer
pub record Draft : Type 0 where
  pub format : Format
  pub segments : List Segment
  pub entry : Option ℕ
  pub stack : ℕ

-- the address behind the last segment's bytes, 0 before any segment
abbrev pub end_of : List Segment → ℕ
end_of [] = 0
end_of (s ∷ ss) = s.address + length s.content

abbrev pub address_after : Draft → ℕ
address_after d = end_of d.segments % 2 ^ 32

-- those that have bytes
abbrev pub with_content : List Segment → List Segment
with_content ss = filter (λ s. nat_lt 0 (length s.content)) ss

-- bytes before any segment or past 2 ^ 32; a segment of a permission that the format cannot write, whose first page is not above the last one
-- with bytes, or that follows 64 others; a format behind a segment
abbrev pub is_out_of_place : Draft → Effect → Bool
is_out_of_place d (bytes b) = nat_lt 0 (length b) && (length d.segments == 0 || nat_lt (2 ^ 32) (end_of d.segments + length b))
is_out_of_place d (segment a p) = nat_lt (greatest_byte d.format) p || nat_lt (a / page_size * page_size) (end_of (with_content d.segments)) || nat_le 64 (length d.segments)
is_out_of_place d (format f) = nat_lt 0 (length d.segments)
is_out_of_place d e = false

-- bytes come to the last segment
abbrev pub with_bytes : List Segment → List ℕ → List Segment
with_bytes [] b = []
with_bytes (s ∷ ss) b = record s { content = s.content ++ b } ∷ ss

abbrev pub with_effect : Draft → Effect → Draft
with_effect d (bytes b) = record d { segments = with_bytes d.segments b }
with_effect d (segment a p) = record d { segments = record { address = a; permission = permission_of d.format p; content = [] } ∷ d.segments }
with_effect d (entry a) = record d { entry = Some a }
with_effect d (stack a) = record d { stack = a }
with_effect d (format f) = record d { format = f }

-- a line with a fault of its own, or that is out of place, does nothing
abbrev pub with_read : Labels → Draft → Read → Draft
with_read labels d (Err kind) = d
with_read labels d (Ok s) = let e = effect_of labels (address_after d) s in if is_out_of_place d e then d else with_effect d e

abbrev pub blank : Draft
blank = record { format = Dti1; segments = []; entry = None; stack = 0 }

unfoldable pub draft_of : Labels → List Line → Draft
draft_of labels lines = fold (λ d l. with_read labels d l.statement) blank lines

-- the segments that have bytes, the last one last; the root begins at the first that has begun, the last of the list, where no line says more
abbrev pub image_of : Draft → Image
image_of d = record { entry = unwrap_or d.entry (fold (λ a s. s.address) 0 d.segments); stack = d.stack; segments = reverse (with_content d.segments) }

-- ---- labels

abbrev pub defines : List ℕ → Line → Bool
defines name l = list_any (λ n. bytes_eq n name) (option_to_list l.name)

-- a label is worth the address that is reached before the first line that defines it, whatever labels are worth
unfoldable pub label_in : List Line → Labels
label_in lines name = if list_any (defines name) lines then Some (address_after (draft_of (λ n. None) (take_while (λ l. not (defines name l)) lines))) else None

-- ---- faults

-- odd, or not from minus the reach to below it
abbrev pub is_out_of_reach : ℕ → ℕ → Bool
is_out_of_reach reach d = not (d % 2 == 0) || not (nat_lt ((d + reach) % 2 ^ 32) (2 * reach))

abbrev pub is_too_far : Labels → ℕ → Value → Bool
is_too_far labels here (distance reach v) = list_any (is_out_of_reach reach) (option_to_list (worth_of labels here (distance reach v)))
is_too_far labels here v = false

-- the most bytes of an image's file
abbrev pub greatest_size : ℕ
greatest_size = 16777216

-- the first test that applies names the kind
abbrev pub first_kind : List (Bool × AsmErrorKind) → Option AsmErrorKind
first_kind tests = option_map (λ t. t.1) (find (λ t. t.0) tests)

abbrev pub fault_of : Labels → List Line → Option (List ℕ) → Read → Option AsmErrorKind
fault_of labels before name (Err kind) = Some kind
fault_of labels before name (Ok s) =
    let d = draft_of labels before in
    let here = address_after d in
    first_kind (
    (list_any (is_too_far labels here) s.values, kinds.Number)
    ∷ (is_some (option_and_then (label_in before) name), kinds.Twice)
    ∷ (is_out_of_place d (effect_of labels here s), kinds.Place)
    ∷ (nat_lt greatest_size (length (image_bytes (image_of (with_read labels d (Ok s))))), kinds.TooBig)
    ∷ (list_any (λ v. is_none (worth_of labels here v)) s.values, kinds.Label)
    ∷ [])

-- the first kind of fault of a line that follows others, among all lines
unfoldable pub fault_in : List Line → List Line → Line → Option AsmErrorKind
fault_in all before line = fault_of (label_in all) before line.name line.statement
