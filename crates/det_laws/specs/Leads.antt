-- Schedules that lead from one tree to another.
-- Our choice: names alone, of a space with so many levels of children left below it.
use Rattle.std.specs.Prelude.{◌≡◌, ℕ, zero, suc, true, List, [], ◌∷◌, length}
use Rattle.space_model.specs.Space.{Space}
use Rattle.run_model.specs.Schedule.{is_enabled, step}

-- the events at these paths, each of which may happen in its turn, lead from s to t
abbrev pub Leads : ℕ → List (List ℕ) → Space → Space → Type 0
Leads levels [] s t = s ≡ t
Leads levels (p ∷ ps) s t = (is_enabled p levels s ≡ true) × Leads levels ps (step p levels s) t

-- so many events lead from s to t
abbrev pub Reaches : ℕ → Space → ℕ → Space → Type 0
Reaches levels s n t = (ps : List (List ℕ)) × (length ps ≡ n) × Leads levels ps s t

-- so many events in a row, all at one path
abbrev pub in_a_row : ℕ → List ℕ → List (List ℕ)
in_a_row zero p = []
in_a_row (suc n) p = p ∷ in_a_row n p
