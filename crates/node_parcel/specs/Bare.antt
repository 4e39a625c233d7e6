-- Pages in a row that have one permission and no byte other than 0, as they stand in a parcel.
-- Our choice: a restatement for proofs.
use Rattle.std.specs.Prelude.{ℕ, zero, suc, ◌+◌, List, [], ◌∷◌}
use Rattle.parcel_model.specs.Parcel.{empty, Entry}

abbrev pub bare_entry : ℕ → ℕ → Entry
bare_entry permission page = record { page = page; permission = permission; content = empty }

-- so many of them
unfoldable pub bare_entries : ℕ → ℕ → ℕ → List Entry
bare_entries permission page zero = []
bare_entries permission page (suc n) = bare_entry permission page ∷ bare_entries permission (page + 1) n
