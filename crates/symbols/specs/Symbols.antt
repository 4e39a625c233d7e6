-- Symbols: names of addresses, as an assembler or a linker gives them; and which of them names a place in memory.
-- Our choice: of the symbols at one address the last one names it.
use Rattle.std.specs.Prelude.{◌≡◌, ℕ, ◌-◌, List, [], ◌∷◌, Option, Some, None, option_map, nat_eq, leb}
use Rattle.std.specs.List.{filter}
use Rattle.std.specs.List.Sorted.{IsNonDecreasingBy}
use Rattle.symbols.specs.declared.symbol.Symbol as code
use Rattle.symbols.specs.declared.symbol.Place as code_place

-- a name, of any bytes, and the address that it stands for
pub record Symbol : Type 0 where
  pub address : ℕ
  pub name : List ℕ

-- an address, by a name and how many bytes it is past the address of that name
pub record Place : Type 0 where
  pub name : List ℕ
  pub offset : ℕ

-- the last of a list
abbrev pub last_of : {A : Type 0} → List A → Option A
last_of [] = None
last_of (x ∷ []) = Some x
last_of (x ∷ y ∷ rest) = last_of (y ∷ rest)

-- those that are not above the address
abbrev pub not_above : ℕ → List Symbol → List Symbol
not_above address symbols = filter (λ s. leb s.address address) symbols

abbrev pub place_from : ℕ → Symbol → Place
place_from address s = record { name = s.name; offset = address - s.address }

-- the place at an address, of symbols in ascending order of their addresses: the last symbol that is not above it, and how far behind that
unfoldable pub place_at : List Symbol → ℕ → Option Place
place_at symbols address = option_map (place_from address) (last_of (not_above address symbols))

-- these symbols in ascending order: at each address the same ones, in the same order
pub record IsArranged (given kept : List Symbol) : Type 0 where
  pub ascending : IsNonDecreasingBy (λ s. s.address) kept
  pub same : (address : ℕ) → filter (λ s. nat_eq s.address address) kept ≡ filter (λ s. nat_eq s.address address) given

-- what the code has
abbrev pub symbol_of : code.Symbol → Symbol
symbol_of s = record { address = s.address; name = s.name.items }

abbrev pub place_of : code_place.Place → Place
place_of p = record { name = p.name.now; offset = p.offset }
