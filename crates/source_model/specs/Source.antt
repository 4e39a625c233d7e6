-- Sources: the image that a text is a source of, and the fault with which any other text is refused.
-- Our choice: in the least line with a fault, the first kind of the list is named.
use Rattle.std.specs.Prelude.{◌≡◌, ℕ, ◌+◌, List, [], ◌∷◌, ◌++◌, length, Some, None}
use Rattle.source_model.specs.declared.error.AsmError.{AsmError}
use Rattle.image_model.specs.Image.{Image}
use Rattle.source_model.specs.Ascii.{lines_of}
use Rattle.source_model.specs.Grammar.{IsLine}
use Rattle.source_model.specs.Meaning.{Line, label_in, draft_of, image_of, fault_in}

-- each text is read as the line in its place
abbrev pub AreLines : List (List ℕ) → List Line → Type 0
AreLines [] [] = Unit {0}
AreLines (t ∷ ts) (l ∷ ls) = IsLine t l × AreLines ts ls
AreLines texts lines = ⊥

-- none of these lines has a fault, where each follows those before it
abbrev pub AreFaultless : List Line → List Line → List Line → Type 0
AreFaultless all before [] = Unit {0}
AreFaultless all before (l ∷ ls) = (fault_in all before l ≡ None) × AreFaultless all (before ++ l ∷ []) ls

-- the least line with a fault, and its first kind
pub record HasFault (lines : List Line) (e : AsmError) : Type 0 where
  pub before : List Line
  pub line : Line
  pub others : List Line
  pub split : lines ≡ before ++ line ∷ others
  pub earlier : AreFaultless lines [] before
  pub place : e.line ≡ length before + 1
  pub kind : fault_in lines before line ≡ Some e.kind

-- the text is a source of the image
pub record SourceOf (text : List ℕ) (i : Image) : Type 0 where
  pub lines : List Line
  pub read : AreLines (lines_of text) lines
  pub faultless : AreFaultless lines [] lines
  pub image : i ≡ image_of (draft_of (label_in lines) lines)

-- the text is refused with this fault
pub record IsRefused (text : List ℕ) (e : AsmError) : Type 0 where
  pub lines : List Line
  pub read : AreLines (lines_of text) lines
  pub fault : HasFault lines e
