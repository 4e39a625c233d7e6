-- A line: its label, and its statement or the first kind of fault that the line has by itself.
-- Our choice: a restatement for proofs: a line as it is read.
use Rattle.std.specs.Prelude.{ℕ, Bool, false, List, Option, Some, None, is_some, not, Err, if◌then◌else◌}
use Rattle.source_model.specs.declared.error.AsmErrorKind.TheVariants as kinds
use Rattle.source_model.specs.declared.statement.Class.TheVariants.{Foreign}
use Rattle.source_model.specs.Bytes.{is_empty, same_text}
use Rattle.source_model.specs.Text.{from, code_of, label_at}
use Rattle.source_model.specs.Statement.{Read, statement_of}

abbrev pub name_in : Option (List ℕ × List ℕ) → Option (List ℕ)
name_in None = None
name_in (Some p) = Some p.0

abbrev pub rest_in : List ℕ → Option (List ℕ × List ℕ) → List ℕ
rest_in text None = text
rest_in text (Some p) = p.1

-- the label that a line defines
unfoldable pub label_of : List ℕ → Option (List ℕ)
label_of line = name_in (label_at (code_of line))

-- what stands in a line beside its label and its comment
unfoldable pub body_of : List ℕ → List ℕ
body_of line = rest_in (code_of line) (label_at (code_of line))

-- a byte that is not ASCII is a fault wherever it stands, and so is a second label
unfoldable pub statement_in : List ℕ → Read
statement_in line =
    if not (is_empty (from Foreign line)) then Err kinds.Word
    else if is_some (label_at (body_of line)) then Err kinds.Word
    else statement_of (body_of line)

abbrev pub is_named : List ℕ → Option (List ℕ) → Bool
is_named name None = false
is_named name (Some n) = same_text n name

-- the line defines this label
unfoldable pub defines : List ℕ → List ℕ → Bool
defines name line = is_named name (label_of line)
