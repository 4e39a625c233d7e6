-- The list of a node's resident pages, and what it is once pages were added.
-- Our choice: how many there may be, and that no two are equal.
use Rattle.std.specs.Prelude.{◌≡◌, ℕ, ◌<◌, ◌≤◌, ◌&&◌, List, [], ◌∷◌, ◌++◌, length, is_none, nat_lt, if◌then◌else◌}
use Rattle.std.specs.Coded.{Coded, coded_ℕ, coded_list}
use Rattle.std.specs.List.{fold}
use Rattle.parcel_model.specs.Parcel.{page_in}
use Rattle.parcel_model.specs.Packing.{number_of}

abbrev pub coded_page : Coded (List ℕ)
coded_page = coded_list coded_ℕ

abbrev pub coded_residents : Coded (List (List ℕ))
coded_residents = coded_list coded_page

abbrev pub most_residents : ℕ
most_residents = 65536

-- with a page behind the others, where there is room and it is not among them
abbrev pub with_resident : List (List ℕ) → List ℕ → List (List ℕ)
with_resident known page = if nat_lt (length known) most_residents && is_none (number_of known page) then known ++ page ∷ [] else known

-- with each of these pages, one after the other
abbrev pub with_residents : List (List ℕ) → List (List ℕ) → List (List ℕ)
with_residents known added = fold with_resident known added

-- the same pages, with others behind them
pub record IsLonger (known longer : List (List ℕ)) : Type 0 where
  pub more : List (List ℕ)
  pub behind : longer ≡ known ++ more

-- few enough, and no two of them equal
pub record AreResidents (known : List (List ℕ)) : Type 0 where
  pub few : length known ≤ most_residents
  pub distinct : (i j : ℕ) → i < j → j < length known → page_in known i ≡ page_in known j → ⊥
