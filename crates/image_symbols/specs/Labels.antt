-- The symbols of an assembler source: its labels.
-- Our choice: that labels of one address stand in the order of their names, byte by byte.
use Rattle.std.specs.Prelude.{◌≡◌, ℕ, List, map, Option, option_map}
use Rattle.std.specs.Cmp.Lexicographic.{slice_cmp}
use Rattle.std.specs.List.{find}
use Rattle.std.specs.List.Sorted.{IsStrictlySortedBy}
use Rattle.std.specs.Ordering.{nat_cmp}
use Rattle.std.specs.Str.{bytes_eq}
use Rattle.source_model.specs.declared.statement.Definition.{Definition}
use Rattle.source_model.specs.Layout.{definitions}
use Rattle.symbols.specs.Symbols.{IsArranged, Symbol}

-- the labels that are defined, each with its address, in the order of their names
pub record IsListOf (labels : List ℕ → Option Definition) (list : List Symbol) : Type 0 where
  pub in_order : IsStrictlySortedBy (slice_cmp nat_cmp) (map (λ s. s.name) list)
  pub found : (name : List ℕ) → option_map (λ s. s.address) (find (λ s. bytes_eq name s.name) list) ≡ option_map (λ d. d.value) (labels name)

-- these symbols are the labels of this source, in ascending order of their addresses
pub record AreLabelsOf (source : List ℕ) (symbols : List Symbol) : Type 0 where
  pub labels : List Symbol
  pub list : IsListOf (definitions source) labels
  pub arranged : IsArranged labels symbols
