-- Worked sources, by computation alone, and what the definition says of them.
use Rattle.std.proofs.Common.{◌≡◌, ℕ, List, [], ◌∷◌, ◌++◌, Result, Ok, Err, refl}
use Rattle.std.specs.Prelude.{codes}
use Rattle.std.specs.List.{flat_map}
use Rattle.image_model.specs.Image.{Image}
use Rattle.instruction_model.specs.Encoding.{word_of}
use Rattle.source_model.specs.declared.error.AsmError.{AsmError}
use Rattle.source_model.specs.declared.error.AsmErrorKind.{AsmErrorKind}
use Rattle.source_model.specs.declared.error.AsmErrorKind.TheVariants as kinds
use Rattle.source_model.specs.Bytes.{same_text, lines_of, without_return}
use Rattle.source_model.specs.Text.{before, from, code_of, is_label, label_at, word_at, mark_at, one_word, two_apart, two_words, three_words, in_parentheses, word_and_address}
use Rattle.source_model.specs.Number.{value_from, decimal, hexadecimal, number_of}
use Rattle.source_model.specs.Register.{index_of}
use Rattle.source_model.specs.Field.{field, count, value_of, register_of}
use Rattle.source_model.specs.Mnemonic.{operation_of, immediate_of, memory_of, branch_of, other_of, directive_of, mnemonic_of}
use Rattle.source_model.specs.Statement.{operate, operate_immediate, shift_immediate, address_of, load, jump_to_register, store, branch, jump, upper, load_upper, add_upper, alone, load_immediate, segment, dti2, entry, stack, word, byte, zeros, operands, statement_of}
use Rattle.source_model.specs.Line.{label_of, body_of, statement_in, defines}
use Rattle.source_model.specs.Layout.{next, definition_in, definitions}
use Rattle.source_model.specs.Reading.{check_line, with_line, with_lines, source_of}
use Rattle.source_model.specs.Source.{SourceOf, IsRefused}
use Rattle.source_model.proofs.Answers.{reads-sources, reads-faults}

-- lines, each with its line feed
abbrev text_of : List (List ℕ) → List ℕ
text_of lines = flat_map (λ l. l ++ 10 ∷ []) lines

abbrev fault : ℕ → AsmErrorKind → AsmError
fault line kind = record { line = line; kind = kind }

-- an image of one segment at 0x1000 to read and execute, where the root begins
abbrev one : List ℕ → Image
one content = record { entry = 0x1000; stack = 0; segments = record { address = 0x1000; permission = 5; content = content } ∷ [] }

abbrev answer : List (List ℕ) → Result Image AsmError
answer lines = source_of (text_of lines)

abbrev three_instructions : List (List ℕ)
three_instructions = codes ".segment 0x1000 1" ∷ codes "addi a7, zero, 3" ∷ codes "addi a0, zero, 7" ∷ codes "ecall" ∷ []

abbrev three_words_of_it : Image
three_words_of_it = one (0x93 ∷ 0x08 ∷ 0x30 ∷ 0x00 ∷ 0x13 ∷ 0x05 ∷ 0x70 ∷ 0x00 ∷ 0x73 ∷ 0x00 ∷ 0x00 ∷ 0x00 ∷ [])

abbrev too_wide : List (List ℕ)
too_wide = codes ".segment 0x1000 1" ∷ codes "addi a7, zero, 4096" ∷ codes "ecall" ∷ []

abbrev without_segments : List (List ℕ)
without_segments = codes ".entry 4" ∷ codes ".stack 8" ∷ codes ".entry end" ∷ codes "end: .zero 0" ∷ []

abbrev twice : List (List ℕ)
twice = codes "a:" ∷ codes "a: ecall" ∷ []

abbrev none_defined : List (List ℕ)
none_defined = codes ".segment 0x1000 1" ∷ codes ".word a0" ∷ []

abbrev two_of_them : Image
two_of_them = record { entry = 0x1000; stack = 0x2000; segments = record { address = 0x1000; permission = 5; content = 1 ∷ [] } ∷ record { address = 0x2000; permission = 7; content = 0x00 ∷ 0x20 ∷ 0x00 ∷ 0x00 ∷ [] } ∷ [] }

abbrev formatted : List (List ℕ)
formatted = codes " .dti2 ; permissions of DTI2" ∷ codes ".segment 0x1000 4" ∷ codes ".byte 1" ∷ codes ".segment 0x2000 1" ∷ codes ".byte 2" ∷ []

abbrev two_permissions : Image
two_permissions = record { entry = 0x1000; stack = 0; segments = record { address = 0x1000; permission = 4; content = 1 ∷ [] } ∷ record { address = 0x2000; permission = 1; content = 2 ∷ [] } ∷ [] }

abbrev late_format : List (List ℕ)
late_format = codes ".segment 0x1000 1" ∷ codes ".dti2" ∷ []

record Reads : Type 0 where
  instructions : answer three_instructions ≡ Ok three_words_of_it
  -- a label is worth the address before its line's statement
  labels : answer (codes ".segment 0x1000 1" ∷ codes ".byte 1" ∷ codes "a: .word a" ∷ []) ≡ Ok (one (0x01 ∷ 0x01 ∷ 0x10 ∷ 0x00 ∷ 0x00 ∷ []))
  loads : answer (codes ".segment 0x1000 1" ∷ codes "li a0, end" ∷ codes "end:" ∷ []) ≡ Ok (one (0x37 ∷ 0x15 ∷ 0x00 ∷ 0x00 ∷ 0x13 ∷ 0x05 ∷ 0x85 ∷ 0x00 ∷ []))
  blanks : answer (codes ".segment 0x1000 1" ∷ codes "b : beq x0,x0 , b # back" ∷ []) ≡ Ok (one (0x63 ∷ 0x00 ∷ 0x00 ∷ 0x00 ∷ []))
  parentheses : answer (codes ".segment 0x1000 1" ∷ codes " lw a0, -4(sp); load" ∷ []) ≡ Ok (one (0x03 ∷ 0x25 ∷ 0xc1 ∷ 0xff ∷ []))
  -- a label is worth the same before its line and after it
  both_sides : answer (codes ".segment 0x1000 1" ∷ codes "jal x0, a" ∷ codes "a: jal x0, a" ∷ codes "jal x0, a" ∷ []) ≡ Ok (one (0x6f ∷ 0x00 ∷ 0x40 ∷ 0x00 ∷ 0x6f ∷ 0x00 ∷ 0x00 ∷ 0x00 ∷ 0x6f ∷ 0xf0 ∷ 0xdf ∷ 0xff ∷ []))
  segments : answer (codes ".segment 0x1000 1" ∷ codes ".byte 1" ∷ codes ".segment 0x2000 3" ∷ codes "end: .word end" ∷ codes ".stack end" ∷ []) ≡ Ok two_of_them
  -- the first segment gives the entry, and is left out without bytes
  entry : answer (codes ".segment 0x5000 3" ∷ codes ".segment 0x1000 1" ∷ codes ".byte 1" ∷ []) ≡ Ok (record { entry = 0x5000; stack = 0; segments = record { address = 0x1000; permission = 5; content = 1 ∷ [] } ∷ [] })
  last : answer without_segments ≡ Ok (record { entry = 0; stack = 8; segments = [] })
  empty : answer [] ≡ Ok (record { entry = 0; stack = 0; segments = [] })
  words : answer (codes "nop" ∷ []) ≡ Err (fault 1 kinds.Word)
  shapes : answer (codes "lw a0, 4" ∷ []) ≡ Err (fault 1 kinds.Operand)
  registers : answer (codes "addi x99, x2, 4096" ∷ []) ≡ Err (fault 1 kinds.Register)
  numbers : answer too_wide ≡ Err (fault 2 kinds.Number)
  reach : answer (codes ".segment 0x1000 1" ∷ codes "beq x0, x0, 0x2000" ∷ []) ≡ Err (fault 2 kinds.Number)
  definitions : answer twice ≡ Err (fault 2 kinds.Twice)
  none_yet : answer (codes ".byte 1" ∷ []) ≡ Err (fault 1 kinds.Place)
  order : answer (codes ".segment 0x1000 1" ∷ codes ".byte 1" ∷ codes ".segment 0x1ffc 1" ∷ []) ≡ Err (fault 3 kinds.Place)
  permissions : answer (codes ".segment 0 4" ∷ []) ≡ Err (fault 1 kinds.Place)
  -- permissions of DTI2 are taken as they are written
  formats : answer formatted ≡ Ok two_permissions
  greatest : answer (codes ".dti2" ∷ codes ".segment 0 8" ∷ []) ≡ Err (fault 2 kinds.Place)
  -- a format stands before any segment, once or more often
  again : answer (codes ".dti2" ∷ codes ".dti2" ∷ codes ".segment 0 4" ∷ []) ≡ Ok (record { entry = 0; stack = 0; segments = [] })
  late : answer late_format ≡ Err (fault 2 kinds.Place)
  alone : answer (codes ".dti2 2" ∷ []) ≡ Err (fault 1 kinds.Operand)
  sizes : answer (codes ".segment 0 1" ∷ codes ".zero 0x1000000" ∷ []) ≡ Err (fault 2 kinds.TooBig)
  undefined : answer none_defined ≡ Err (fault 2 kinds.Label)

reads : Reads
unfolding source_of definitions definition_in with_lines with_line check_line next lines_of without_return code_of before from same_text label_of body_of statement_in defines label_at is_label word_at mark_at one_word two_apart two_words three_words in_parentheses word_and_address value_from decimal hexadecimal number_of index_of field count value_of register_of operation_of immediate_of memory_of branch_of other_of directive_of mnemonic_of operate operate_immediate shift_immediate address_of load jump_to_register store branch jump upper load_upper add_upper alone load_immediate segment dti2 entry stack word byte zeros operands statement_of word_of
reads = record {
  instructions = refl;
  labels = refl;
  loads = refl;
  blanks = refl;
  parentheses = refl;
  both_sides = refl;
  segments = refl;
  entry = refl;
  last = refl;
  empty = refl;
  words = refl;
  shapes = refl;
  registers = refl;
  numbers = refl;
  reach = refl;
  definitions = refl;
  none_yet = refl;
  order = refl;
  permissions = refl;
  formats = refl;
  greatest = refl;
  again = refl;
  late = refl;
  alone = refl;
  sizes = refl;
  undefined = refl;
}

-- a text that is a source of an image
pub instructions : SourceOf (text_of three_instructions) three_words_of_it
instructions = (reads-sources (text_of three_instructions) three_words_of_it).0 reads.instructions

-- texts that are refused
pub too-wide : IsRefused (text_of too_wide) (fault 2 kinds.Number)
too-wide = (reads-faults (text_of too_wide) (fault 2 kinds.Number)).0 reads.numbers

pub defined-twice : IsRefused (text_of twice) (fault 2 kinds.Twice)
defined-twice = (reads-faults (text_of twice) (fault 2 kinds.Twice)).0 reads.definitions

pub not-defined : IsRefused (text_of none_defined) (fault 2 kinds.Label)
not-defined = (reads-faults (text_of none_defined) (fault 2 kinds.Label)).0 reads.undefined

pub formats : SourceOf (text_of formatted) two_permissions
formats = (reads-sources (text_of formatted) two_permissions).0 reads.formats

pub late-format : IsRefused (text_of late_format) (fault 2 kinds.Place)
late-format = (reads-faults (text_of late_format) (fault 2 kinds.Place)).0 reads.late
