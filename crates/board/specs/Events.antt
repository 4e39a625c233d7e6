-- The events of a history, as a schedule names them: moves have none.
-- Our choice: an entry of local events stands for as many names in a row.
use Rattle.std.specs.Prelude.{ℕ, List, [], ◌∷◌, ◌++◌}
use Rattle.det_core.specs.declared.entry.Entry.{Entry}
use Rattle.det_core.specs.declared.entry.Entry.TheVariants.{Ran, Moved, Met}
use Rattle.det_laws.specs.Leads.{in_a_row}

abbrev pub events_of : Entry → List (List ℕ)
events_of (Ran path events) = in_a_row events path.items
events_of (Moved path node) = []
events_of (Met path) = path.items ∷ []

-- the schedule that a history is
abbrev pub schedule_of : List Entry → List (List ℕ)
schedule_of [] = []
schedule_of (e ∷ es) = events_of e ++ schedule_of es

-- the history without its moves
abbrev pub without_moves : List Entry → List Entry
without_moves [] = []
without_moves (Ran path events ∷ es) = Ran path events ∷ without_moves es
without_moves (Moved path node ∷ es) = without_moves es
without_moves (Met path ∷ es) = Met path ∷ without_moves es
