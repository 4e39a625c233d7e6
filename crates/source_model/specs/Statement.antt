-- Statements: what follows the first word, read by shape, then registers, then numbers. Beside a statement stands the word
-- that may name its label.
-- Our choice: a restatement for proofs: operands as they are read.
use Rattle.std.specs.Prelude.{ℕ, ◌*◌, ◌-◌, ◌^◌, List, [], Result, Ok, Err, if◌then◌else◌}
use Rattle.memory_model.specs.Sizes.{greatest_permission}
use Rattle.memory_model.specs.declared.Width.{Width}
use Rattle.instruction_model.specs.declared.Comparison.{Comparison}
use Rattle.instruction_model.specs.declared.LoadKind.{LoadKind}
use Rattle.instruction_model.specs.declared.Operation.{Operation}
use Rattle.instruction_model.specs.declared.Instruction.{Instruction}
use Rattle.instruction_model.specs.declared.Instruction.TheVariants as instructions
use Rattle.source_model.specs.declared.error.AsmErrorKind.{AsmErrorKind}
use Rattle.source_model.specs.declared.error.AsmErrorKind.TheVariants as kinds
use Rattle.source_model.specs.declared.mnemonic.Mnemonic.{Mnemonic}
use Rattle.source_model.specs.declared.mnemonic.Mnemonic.TheVariants as words
use Rattle.source_model.specs.declared.statement.Statement.{Statement}
use Rattle.source_model.specs.declared.statement.Statement.TheVariants as statements
use Rattle.source_model.specs.declared.statement.Class.TheVariants.{Solid, Blank}
use Rattle.source_model.specs.Bytes.{is_empty}
use Rattle.source_model.specs.Text.{◌>>=◌, before, from, one_word, two_apart, two_words, three_words, word_and_address}
use Rattle.source_model.specs.Field.{field, count, value_of, register_of}
use Rattle.source_model.specs.Mnemonic.{mnemonic_of}

abbrev pub Read : Type 0
Read = Result (Statement × List ℕ) AsmErrorKind

abbrev pub plain : Instruction → Read
plain i = Ok (statements.Plain i, [])

-- rd, rs1, rs2
unfoldable pub operate : Operation → List ℕ → Read
operate o text = do
  w ← three_words text
  rd ← register_of w.0
  rs1 ← register_of w.1
  rs2 ← register_of w.2
  plain (instructions.Operate o rd rs1 rs2)

-- rd, rs1, and a number from -2,048 to 2,047
unfoldable pub operate_immediate : Operation → List ℕ → Read
operate_immediate o text = do
  w ← three_words text
  rd ← register_of w.0
  rs1 ← register_of w.1
  n ← field 2048 2047 w.2
  plain (instructions.OperateImmediate o rd rs1 n)

-- rd, rs1, and a number from 0 to 31
unfoldable pub shift_immediate : Operation → List ℕ → Read
shift_immediate o text = do
  w ← three_words text
  rd ← register_of w.0
  rs1 ← register_of w.1
  n ← field 0 31 w.2
  plain (instructions.OperateImmediate o rd rs1 n)

-- a register, and a number from -2,048 to 2,047 with a register in parentheses
unfoldable pub address_of : List ℕ → Result (ℕ × ℕ × ℕ) AsmErrorKind
address_of text = do
  w ← word_and_address text
  r ← register_of w.0
  rs1 ← register_of w.2
  n ← field 2048 2047 w.1
  Ok (r, rs1, n)

unfoldable pub load : LoadKind → List ℕ → Read
load k text = do
  a ← address_of text
  plain (instructions.Load k a.0 a.1 a.2)

unfoldable pub jump_to_register : List ℕ → Read
jump_to_register text = do
  a ← address_of text
  plain (instructions.Jalr a.0 a.1 a.2)

unfoldable pub store : Width → List ℕ → Read
store width text = do
  a ← address_of text
  plain (instructions.Store width a.1 a.0 a.2)

-- rs1, rs2, and a target
unfoldable pub branch : Comparison → List ℕ → Read
branch c text = do
  w ← three_words text
  rs1 ← register_of w.0
  rs2 ← register_of w.1
  v ← value_of w.2
  Ok (statements.Branch c rs1 rs2 v, w.2)

-- rd, and a target
unfoldable pub jump : List ℕ → Read
jump text = do
  w ← two_words text
  rd ← register_of w.0
  v ← value_of w.1
  Ok (statements.Jump rd v, w.1)

-- rd, and a number from 0 to 2 ^ 20 - 1
unfoldable pub upper : List ℕ → Result (ℕ × ℕ) AsmErrorKind
upper text = do
  w ← two_words text
  rd ← register_of w.0
  n ← field 0 (2 ^ 20 - 1) w.1
  Ok (rd, 4096 * n)

unfoldable pub load_upper : List ℕ → Read
load_upper text = do
  u ← upper text
  plain (instructions.Lui u.0 u.1)

unfoldable pub add_upper : List ℕ → Read
add_upper text = do
  u ← upper text
  plain (instructions.Auipc u.0 u.1)

unfoldable pub alone : Instruction → List ℕ → Read
alone i text = if is_empty (from Solid text) then plain i else Err kinds.Operand

unfoldable pub load_immediate : List ℕ → Read
load_immediate text = do
  w ← two_words text
  rd ← register_of w.0
  v ← value_of w.1
  Ok (statements.LoadImmediate rd v, w.1)

-- an address, a blank, and a permission
unfoldable pub segment : List ℕ → Read
segment text = do
  w ← two_apart text
  a ← field 0 (2 ^ 32 - 1) w.0
  p ← count greatest_permission w.1
  Ok (statements.Segment a p, [])

unfoldable pub dti2 : List ℕ → Read
dti2 text = if is_empty (from Solid text) then Ok (statements.Dti2, []) else Err kinds.Operand

unfoldable pub entry : List ℕ → Read
entry text = do
  w ← one_word text
  v ← value_of w
  Ok (statements.Entry v, w)

unfoldable pub stack : List ℕ → Read
stack text = do
  w ← one_word text
  v ← value_of w
  Ok (statements.Stack v, w)

unfoldable pub word : List ℕ → Read
word text = do
  w ← one_word text
  v ← value_of w
  Ok (statements.Word v, w)

unfoldable pub byte : List ℕ → Read
byte text = do
  w ← one_word text
  n ← field 0 255 w
  Ok (statements.Byte n, [])

unfoldable pub zeros : List ℕ → Read
zeros text = do
  w ← one_word text
  n ← count (2 ^ 32) w
  Ok (statements.Zero n, [])

unfoldable pub operands : Mnemonic → List ℕ → Read
operands (words.Operate o) text = operate o text
operands (words.OperateImmediate o) text = operate_immediate o text
operands (words.ShiftImmediate o) text = shift_immediate o text
operands (words.Load k) text = load k text
operands (words.Store width) text = store width text
operands (words.Branch c) text = branch c text
operands words.Jalr text = jump_to_register text
operands words.Jal text = jump text
operands words.Lui text = load_upper text
operands words.Auipc text = add_upper text
operands (words.Alone i) text = alone i text
operands words.LoadImmediate text = load_immediate text
operands words.Segment text = segment text
operands words.Dti2 text = dti2 text
operands words.Entry text = entry text
operands words.Stack text = stack text
operands words.Word text = word text
operands words.Byte text = byte text
operands words.Zero text = zeros text

-- a first word, up to a blank, and its operands
unfoldable pub statement_of : List ℕ → Read
statement_of text =
    let start = from Solid text in
    if is_empty start then Ok (statements.Nothing, [])
    else (mnemonic_of (before Blank start) >>= λ m. operands m (from Blank start))
