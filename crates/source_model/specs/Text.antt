-- The text of a source: bytes, lines, labels and words.
-- Our choice: a restatement for proofs: a text as it is cut from left to right.
use Rattle.std.specs.Prelude.{ℕ, Bool, false, not, ◌&&◌, ◌||◌, ◌==◌, List, [], ◌∷◌, drop, Option, Some, None, Result, Ok, Err, if◌then◌else◌}
use Rattle.source_model.specs.Bytes.{is_digit, is_letter, is_blank, is_comment, is_word_end, is_foreign, is_empty, begins, without_return}
use Rattle.source_model.specs.declared.error.AsmErrorKind.{AsmErrorKind}
use Rattle.source_model.specs.declared.error.AsmErrorKind.TheVariants as kinds
use Rattle.source_model.specs.declared.statement.Class.{Class}
use Rattle.source_model.specs.declared.statement.Class.TheVariants.{LineFeed, Comment, Blank, Solid, Outside, WordEnd, Foreign}

-- reading goes on after a value, and stops at a fault
infixl 10 ◌>>=◌
abbrev pub ◌>>=◌ : {A B : Type 0} → Result A AsmErrorKind → (A → Result B AsmErrorKind) → Result B AsmErrorKind
(Ok x) >>= f = f x
(Err e) >>= f = Err e

-- ---- bytes

abbrev pub contains : Class → ℕ → Bool
contains LineFeed b = b == 10
contains Comment b = is_comment b
contains Blank b = is_blank b
contains Solid b = not (is_blank b)
contains Outside b = not (is_letter b || is_digit b)
contains WordEnd b = is_word_end b
contains Foreign b = is_foreign b

-- ---- cutting a text

-- what stands before the first byte of the class
unfoldable pub before : Class → List ℕ → List ℕ
before class [] = []
before class (b ∷ bs) = if contains class b then [] else b ∷ before class bs

-- what stands from the first byte of the class on
unfoldable pub from : Class → List ℕ → List ℕ
from class [] = []
from class (b ∷ bs) = if contains class b then b ∷ bs else from class bs

-- ---- lines

-- a line without its comment
unfoldable pub code_of : List ℕ → List ℕ
code_of text = before Comment (without_return text)

-- ---- labels

-- a label begins with a letter
abbrev pub has_first_letter : List ℕ → Bool
has_first_letter [] = false
has_first_letter (b ∷ bs) = is_letter b

-- a word of letters and digits that begins with a letter
unfoldable pub is_label : List ℕ → Bool
is_label word = has_first_letter word && is_empty (from Outside word)

-- the label that a text begins with, and what follows its colon
unfoldable pub label_at : List ℕ → Option (List ℕ × List ℕ)
label_at text =
    let start = from Solid text in
    let name = before Outside start in
    let rest = from Solid (from Outside start) in
    if has_first_letter name && begins 58 rest then Some (name, drop 1 rest) else None

-- ---- words, with blanks around them

-- a word, and what follows it and the blanks after it
unfoldable pub word_at : List ℕ → Result (List ℕ × List ℕ) AsmErrorKind
word_at text =
    let start = from Solid text in
    let word = before WordEnd start in
    if is_empty word then Err kinds.Operand else Ok (word, from Solid (from WordEnd start))

-- what follows a mark
unfoldable pub mark_at : ℕ → List ℕ → Result (List ℕ) AsmErrorKind
mark_at mark text = if begins mark text then Ok (drop 1 text) else Err kinds.Operand

unfoldable pub one_word : List ℕ → Result (List ℕ) AsmErrorKind
one_word text = do
  a ← word_at text
  if is_empty a.1 then Ok a.0 else Err kinds.Operand

-- two words with a blank between them
unfoldable pub two_apart : List ℕ → Result (List ℕ × List ℕ) AsmErrorKind
two_apart text = do
  a ← word_at text
  b ← one_word a.1
  Ok (a.0, b)

-- words with commas between them
unfoldable pub two_words : List ℕ → Result (List ℕ × List ℕ) AsmErrorKind
two_words text = do
  a ← word_at text
  rest ← mark_at 44 a.1
  b ← one_word rest
  Ok (a.0, b)

unfoldable pub three_words : List ℕ → Result (List ℕ × List ℕ × List ℕ) AsmErrorKind
three_words text = do
  a ← word_at text
  rest ← mark_at 44 a.1
  others ← two_words rest
  Ok (a.0, others.0, others.1)

-- a word in parentheses
unfoldable pub in_parentheses : List ℕ → Result (List ℕ) AsmErrorKind
in_parentheses text = do
  rest ← mark_at 40 text
  a ← word_at rest
  rest ← mark_at 41 a.1
  if is_empty (from Solid rest) then Ok a.0 else Err kinds.Operand

-- a word, a comma, a word and a word in parentheses
unfoldable pub word_and_address : List ℕ → Result (List ℕ × List ℕ × List ℕ) AsmErrorKind
word_and_address text = do
  a ← word_at text
  rest ← mark_at 44 a.1
  b ← word_at rest
  c ← in_parentheses b.1
  Ok (a.0, b.0, c)
