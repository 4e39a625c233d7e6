-- What a label is worth, in other words than those in which it is computed.
-- Our choice: a restatement for proofs.
use Rattle.std.specs.Prelude.{◌≡◌, ℕ, ◌+◌, true, false, List, [], ◌∷◌, ◌++◌, length}
use Rattle.source_model.specs.declared.statement.Definition.{Definition}
use Rattle.source_model.specs.declared.statement.Layout.{Layout}
use Rattle.source_model.specs.Line.{defines}
use Rattle.source_model.specs.Layout.{address_in, next}

-- how far lines come
abbrev pub layout_after : Layout → List (List ℕ) → Layout
layout_after here [] = here
layout_after here (l ∷ ls) = layout_after (next here l) ls

abbrev pub NoneDefines : List ℕ → List (List ℕ) → Type 0
NoneDefines name [] = Unit {0}
NoneDefines name (l ∷ ls) = (defines name l ≡ false) × NoneDefines name ls

-- some line defines the name, none before it does, and the value is the address that the lines before it reach
pub record IsFirstDefinition (number : ℕ) (here : Layout) (lines : List (List ℕ)) (name : List ℕ) (d : Definition) : Type 0 where
  pub before : List (List ℕ)
  pub line : List ℕ
  pub others : List (List ℕ)
  pub split : lines ≡ before ++ line ∷ others
  pub none : NoneDefines name before
  pub defined : defines name line ≡ true
  pub place : d.line ≡ number + length before
  pub value : d.value ≡ address_in (layout_after here before).reached
