-- Lines: what a text of one line is read as.
-- Source: RISC-V Assembly Programmer's Manual, for the look of a line.
-- Our choice: the grammar. A byte that is not ASCII is a fault wherever it stands, and so is a second label.
use Rattle.std.specs.Prelude.{◌≡◌, ℕ, ◌<◌, Bool, true, false, not, ◌||◌, List, [], ◌∷◌, ◌++◌, length, take, find, Option, Some, None, is_some, Ok, Err, ◌⊎◌, codes}
use Rattle.std.specs.List.{list_any, list_all}
use Rattle.std.specs.Str.{bytes_eq}
use Rattle.std.specs.Str.Lines.{strip_carriage_return}
use Rattle.source_model.specs.declared.error.AsmErrorKind.TheVariants as kinds
use Rattle.source_model.specs.Ascii.{is_blank, is_comment, is_word_end, is_foreign}
use Rattle.source_model.specs.Meaning.{Line, Read, bytes}
use Rattle.source_model.specs.Operand.{Part, mark, word, is_label, Operands, statement_of, Form, instructions, directives}

-- ---- parts of a text

-- what stands behind blanks
abbrev pub Starts : List ℕ → List ℕ → Type 0
Starts text start = (gap : List ℕ) × (list_all is_blank gap ≡ true) × (text ≡ gap ++ start)

-- a text up to its first byte that passes the test, or to its end, and the rest
pub record IsCut (stop : ℕ → Bool) (text front rest : List ℕ) : Type 0 where
  pub split : text ≡ front ++ rest
  pub inside : list_all (λ b. not (stop b)) front ≡ true
  pub end : list_all stop (take 1 rest) ≡ true

-- blanks, a word up to the first byte that passes the test, and the rest
abbrev pub HasWord : (ℕ → Bool) → List ℕ → List ℕ → List ℕ → Type 0
HasWord stop text w rest = (start : List ℕ) × Starts text start × IsCut stop start w rest × (0 < length w)

-- blanks, a label, blanks, a colon, and the rest
abbrev pub HasLabel : List ℕ → List ℕ → List ℕ → Type 0
HasLabel text name rest = (after : List ℕ) × (is_label name ≡ true) × Starts text (name ++ after) × Starts after (codes ":" ++ rest)

-- ---- statements

-- the text is these parts, one after the other, with these operands
abbrev pub AreOperands : List Part → List ℕ → Operands → Type 0
AreOperands [] text os = Starts text [] × (os ≡ [])
AreOperands (mark m ∷ ps) text os = (rest : List ℕ) × Starts text (m ∷ rest) × AreOperands ps rest os
AreOperands (word r value ∷ ps) text os = (w : List ℕ) × (rest : List ℕ) × (others : Operands)
    × HasWord is_word_end text w rest × AreOperands ps rest others × (os ≡ (r, value w) ∷ others)

-- what follows a first word is read by its form
abbrev pub Asks : Option Form → List ℕ → Read → Type 0
Asks None text r = r ≡ Err kinds.Word
Asks (Some f) text r = ((os : Operands) × AreOperands f.parts text os × (r ≡ statement_of f.effect os))
    ⊎ (((os : Operands) → AreOperands f.parts text os → ⊥) × (r ≡ Err kinds.Operand))

-- nothing, or a first word up to a blank and its operands
abbrev pub IsStatement : List ℕ → Read → Type 0
IsStatement body r = (Starts body [] × (r ≡ Ok (record { values = []; effect = λ v. bytes [] })))
    ⊎ ((name : List ℕ) × (rest : List ℕ) × HasWord is_blank body name rest × Asks (find (λ f. bytes_eq name f.name) (instructions ++ directives)) rest r)

-- ---- lines

-- a label or none, and what stands behind it
abbrev pub IsBody : List ℕ → Option (List ℕ) → List ℕ → Type 0
IsBody code None body = ((name rest : List ℕ) → HasLabel code name rest → ⊥) × (body ≡ code)
IsBody code (Some name) body = HasLabel code name body

abbrev pub IsRead : Bool → List ℕ → Read → Type 0
IsRead true body r = r ≡ Err kinds.Word
IsRead false body r = IsStatement body r

-- a label or none, no second one, a statement or nothing, and a comment or none
pub record IsLine (text : List ℕ) (line : Line) : Type 0 where
  pub code : List ℕ
  pub comment : List ℕ
  pub body : List ℕ
  pub second : Option (List ℕ)
  pub rest : List ℕ
  pub cut : IsCut is_comment (strip_carriage_return text) code comment
  pub label : IsBody code line.name body
  pub other : IsBody body second rest
  pub statement : IsRead (list_any is_foreign text || is_some second) rest line.statement
