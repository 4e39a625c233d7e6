-- A schedule replayed: the events at these paths, one after the other, where each may happen.
-- Our choice: a path at which no event may happen changes nothing.
use Rattle.std.specs.Prelude.{ℕ, List, [], ◌∷◌}
use Rattle.space_model.specs.Space.{Space}
use Rattle.run_model.specs.Schedule.{try_step}

-- of a space with so many levels of children left below it
abbrev pub replay : List (List ℕ) → ℕ → Space → Space
replay [] levels s = s
replay (p ∷ ps) levels s = replay ps levels (try_step p levels s)
