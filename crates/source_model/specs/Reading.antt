-- What reading a source line by line gives: its image, or its first fault.
-- Our choice: a restatement for proofs, which the laws determine.
-- Laws: crates/source_model/src/sources.rt
use Rattle.std.specs.Prelude.{ℕ, ◌+◌, ◌-◌, ◌*◌, ◌/◌, ◌%◌, ◌^◌, Bool, false, not, ◌||◌, nat_lt, ◌==◌, List, [], ◌∷◌, ◌++◌, replicate, Option, Some, None, option_map, unwrap_or, Result, Ok, Err, if◌then◌else◌}
use Rattle.std.specs.Int.{w32, to_le_bytes}
use Rattle.image_model.specs.Image as model
use Rattle.instruction_model.specs.declared.Instruction.{Instruction}
use Rattle.instruction_model.specs.declared.Instruction.TheVariants as instructions
use Rattle.instruction_model.specs.declared.Operation.TheVariants.{Add}
use Rattle.instruction_model.specs.Word.{sign_extended}
use Rattle.source_model.specs.declared.error.AsmError.{AsmError}
use Rattle.source_model.specs.declared.error.AsmErrorKind.{AsmErrorKind}
use Rattle.source_model.specs.declared.error.AsmErrorKind.TheVariants as kinds
use Rattle.source_model.specs.declared.statement.Statement.{Statement}
use Rattle.source_model.specs.declared.statement.Statement.TheVariants.{Nothing, Plain, Branch, Jump, LoadImmediate, Segment, Dti2, Entry, Stack, Word, Byte, Zero}
use Rattle.source_model.specs.declared.statement.Value.{Value}
use Rattle.source_model.specs.declared.statement.Value.TheVariants as values
use Rattle.source_model.specs.declared.statement.Layout.{Layout}
use Rattle.source_model.specs.declared.statement.Definition.{Definition}
use Rattle.source_model.specs.Bytes.{is_empty, lines_of}
use Rattle.source_model.specs.Text.{◌>>=◌}
use Rattle.source_model.specs.Line.{label_of, statement_in}
use Rattle.source_model.specs.Layout.{size_of, start, address_in, is_out_of_place, after, definitions}
use Rattle.instruction_model.specs.Encoding.{word_of}

-- where labels are first defined
abbrev pub Labels : Type 0
Labels = List ℕ → Option Definition

-- ---- the value of a statement

-- 0 where the statement has none
abbrev pub operand_of : Statement → Value
operand_of Nothing = values.Number 0
operand_of (Plain i) = values.Number 0
operand_of (Branch c a b t) = t
operand_of (Jump r t) = t
operand_of (LoadImmediate r v) = v
operand_of (Segment a p) = values.Number 0
operand_of Dti2 = values.Number 0
operand_of (Entry v) = v
operand_of (Stack v) = v
operand_of (Word v) = v
operand_of (Byte n) = values.Number 0
operand_of (Zero n) = values.Number 0

-- none where the label is not defined
abbrev pub worth_of : Labels → List ℕ → Value → Option ℕ
worth_of labels name (values.Number n) = Some n
worth_of labels name values.Label = option_map (λ d. d.value) (labels name)

-- ---- targets

-- from an address to a target, modulo 2 ^ 32
abbrev pub distance : ℕ → ℕ → ℕ
distance here target = (target + (2 ^ 32 - here)) % 2 ^ 32

-- odd, or not from minus the reach to below it
abbrev pub is_out_of_reach : ℕ → ℕ → Bool
is_out_of_reach reach d = not (d % 2 == 0) || not (nat_lt ((d + reach) % 2 ^ 32) (2 * reach))

abbrev pub is_too_far : ℕ → Statement → Option ℕ → Bool
is_too_far here s None = false
is_too_far here (Branch c a b t) (Some v) = is_out_of_reach (2 ^ 12) (distance here v)
is_too_far here (Jump r t) (Some v) = is_out_of_reach (2 ^ 20) (distance here v)
is_too_far here s (Some v) = false

-- ---- bytes

abbrev pub instruction_bytes : Instruction → List ℕ
instruction_bytes i = to_le_bytes w32 (word_of i)

-- the nearest multiple of 4,096 that is at most 2,048 above, modulo 2 ^ 32
abbrev pub upper_part : ℕ → ℕ
upper_part v = (v + 0x800) / 0x1000 % 2 ^ 20 * 0x1000

-- what is left of it, from -2,048 to 2,047
abbrev pub lower_part : ℕ → ℕ
lower_part v = sign_extended 12 (v % 0x1000)

-- the bytes of a statement with this value at this address
abbrev pub bytes_of : ℕ → Statement → ℕ → List ℕ
bytes_of here Nothing v = []
bytes_of here (Plain i) v = instruction_bytes i
bytes_of here (Branch c a b t) v = instruction_bytes (instructions.Branch c a b (distance here v))
bytes_of here (Jump r t) v = instruction_bytes (instructions.Jal r (distance here v))
bytes_of here (LoadImmediate r t) v = instruction_bytes (instructions.Lui r (upper_part v)) ++ instruction_bytes (instructions.OperateImmediate Add r r (lower_part v))
bytes_of here (Segment a p) v = []
bytes_of here Dti2 v = []
bytes_of here (Entry t) v = []
bytes_of here (Stack t) v = []
bytes_of here (Word t) v = to_le_bytes w32 v
bytes_of here (Byte n) v = n ∷ []
bytes_of here (Zero n) v = replicate n 0

-- ---- the image as far as the lines have come

-- closed segments and, where one has begun, the address, permission and bytes of the last; the address of the first; what
-- .entry and .stack gave; how many bytes the image's file has
pub record Draft : Type 0 where
  pub layout : Layout
  pub base : ℕ
  pub permission : ℕ
  pub content : List ℕ
  pub segments : List model.Segment
  pub first : Option ℕ
  pub entry : Option ℕ
  pub stack : ℕ
  pub size : ℕ

abbrev pub blank : Draft
blank = record { layout = start; base = 0; permission = 0; content = []; segments = []; first = None; entry = None; stack = 0; size = 14 }

-- a segment without bytes is left out
abbrev pub all_segments : ℕ → ℕ → List ℕ → List model.Segment → List model.Segment
all_segments base permission [] segments = segments
all_segments base permission (b ∷ bs) segments = segments ++ record { address = base; permission = permission; content = b ∷ bs } ∷ []

abbrev pub or_first : Option ℕ → ℕ → Option ℕ
or_first None a = Some a
or_first (Some b) a = Some b

-- the size of the file with so many bytes more: a segment's first byte brings nine with it
abbrev pub size_with : Draft → ℕ → ℕ
size_with d n = if n == 0 then d.size else d.size + n + (if is_empty d.content then 9 else 0)

abbrev pub with_bytes : Draft → Statement → ℕ → Draft
with_bytes d s v = record d { layout = after d.layout s; content = d.content ++ bytes_of (address_in d.layout.reached) s v; size = size_with d (size_of s) }

abbrev pub draft_with : Draft → Statement → ℕ → Draft
draft_with d (Segment a p) v = record d { layout = after d.layout (Segment a p); base = a; permission = model.permission_of d.layout.format p; content = []; segments = all_segments d.base d.permission d.content d.segments; first = or_first d.first a }
draft_with d Dti2 v = record d { layout = after d.layout Dti2 }
draft_with d (Entry t) v = record d { entry = Some v }
draft_with d (Stack t) v = record d { stack = v }
draft_with d s v = with_bytes d s v

-- ---- faults

-- the label has a definition in an earlier line
abbrev pub is_earlier : ℕ → Option Definition → Bool
is_earlier number None = false
is_earlier number (Some d) = nat_lt d.line number

abbrev pub is_defined_before : Labels → ℕ → Option (List ℕ) → Bool
is_defined_before labels number None = false
is_defined_before labels number (Some name) = is_earlier number (labels name)

abbrev pub limit : ℕ
limit = 16777216

abbrev pub with_value : Draft → Statement → Option ℕ → Result Draft AsmErrorKind
with_value d s None = Err kinds.Label
with_value d s (Some v) = Ok (draft_with d s v)

-- a line after others: its first fault, or the draft with it
unfoldable pub check_line : Labels → ℕ → Draft → Option (List ℕ) → Statement → Option ℕ → Result Draft AsmErrorKind
check_line labels number d label s v =
    if is_too_far (address_in d.layout.reached) s v then Err kinds.Number
    else if is_defined_before labels number label then Err kinds.Twice
    else if is_out_of_place d.layout s then Err kinds.Place
    else if nat_lt limit (size_with d (size_of s)) then Err kinds.TooBig
    else with_value d s v

unfoldable pub with_line : Labels → ℕ → Draft → List ℕ → Result Draft AsmErrorKind
with_line labels number d line = do
  s ← statement_in line
  check_line labels number d (label_of line) s.0 (worth_of labels s.1 (operand_of s.0))

-- ---- sources

abbrev pub in_line : {A : Type 0} → ℕ → Result Draft AsmErrorKind → (Draft → Result A AsmError) → Result A AsmError
in_line number (Ok d) f = f d
in_line number (Err kind) f = Err (record { line = number; kind = kind })

unfoldable pub with_lines : Labels → ℕ → Draft → List (List ℕ) → Result Draft AsmError
with_lines labels number d [] = Ok d
with_lines labels number d (l ∷ ls) = in_line number (with_line labels number d l) (λ e. with_lines labels (number + 1) e ls)

abbrev pub draft_image : Draft → model.Image
draft_image d = record { entry = unwrap_or d.entry (unwrap_or d.first 0); stack = d.stack; segments = all_segments d.base d.permission d.content d.segments }

abbrev pub image_in : Result Draft AsmError → Result model.Image AsmError
image_in (Ok d) = Ok (draft_image d)
image_in (Err e) = Err e

-- the image of a source, or its first fault
unfoldable pub source_of : List ℕ → Result model.Image AsmError
source_of text = image_in (with_lines (definitions text) 1 blank (lines_of text))
