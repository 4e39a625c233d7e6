-- Texts in which each line says an item: what the lines make together, and which line is the first that is refused.
-- Our choice: that one refused line refuses the text, and that the first one is named, counted from 1.
use Rattle.std.specs.Prelude.{◌≡◌, ℕ, ◌+◌, List, ◌∷◌, ◌++◌, length}
use Rattle.std.specs.List.{AllZip}
use Rattle.text_lines.specs.Lines.{lines_of}

-- each line of the bytes says its item, and the items make this value
pub record IsTextOf {A X : Type 0} (says : List ℕ → A → Type 0) (make : List A → X) (bytes : List ℕ) (value : X) : Type 0 where
  pub items : List A
  pub said : AllZip says (lines_of bytes) items
  pub made : value ≡ make items

-- a line that says no item
abbrev pub IsRefused : {A : Type 0} → (List ℕ → A → Type 0) → List ℕ → Type 0
IsRefused {A} says line = (i : A) → says line i → ⊥

-- the line of this number, counted from 1, is refused, and each line before it says an item
pub record IsFirstRefused {A : Type 0} (says : List ℕ → A → Type 0) (bytes : List ℕ) (number : ℕ) : Type 0 where
  pub before : List (List ℕ)
  pub line : List ℕ
  pub others : List (List ℕ)
  pub split : lines_of bytes ≡ before ++ line ∷ others
  pub items : List A
  pub said : AllZip says before items
  pub refused : IsRefused says line
  pub place : number ≡ length before + 1
