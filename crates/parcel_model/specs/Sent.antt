-- The pages whose bytes stand in a parcel, which is how those travel that the node it goes to lacks (OSDI 2010, "Efficient System-Enforced
-- Deterministic Parallelism", the section on distribution: a space migrates with the pages that its new node lacks).
-- Source: OSDI 2010, "Efficient System-Enforced Deterministic Parallelism", "Distribution via Space Migration".
-- Our choice: their order, in which both ends add them to their lists.
use Rattle.std.specs.Prelude.{ℕ, List, [], ◌∷◌, ◌++◌, Option, Some, None}
use Rattle.std.specs.List.{flat_map}
use Rattle.parcel_model.specs.Parcel.{Content, empty, resident, whole, Entry, Parcel}

-- the bytes that stand there, if any do
abbrev pub whole_page : Content → List (List ℕ)
whole_page empty = []
whole_page (resident number) = []
whole_page (whole bytes) = bytes ∷ []

abbrev pub page_of_entry : Entry → List (List ℕ)
page_of_entry e = whole_page e.content

-- those of a memory, by rising page
abbrev pub whole_pages : List Entry → List (List ℕ)
whole_pages es = flat_map page_of_entry es

abbrev pub whole_pages_in : Option (List Entry) → List (List ℕ)
whole_pages_in None = []
whole_pages_in (Some es) = whole_pages es

-- those of the memory, and behind them those of the snapshot
abbrev pub pages_sent : Parcel → List (List ℕ)
pages_sent p = whole_pages p.memory ++ whole_pages_in p.snapshot
