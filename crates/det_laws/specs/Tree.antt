-- What the laws speak of, each of a whole tree: from its root on, with all levels of children left below it.
-- Our choice: names alone; what they stand for is defined for a space at any depth.
use Rattle.std.specs.Prelude.{◌≡◌, ℕ, ◌+◌, Bool, true, cond, List, [], ◌∷◌, ◌++◌, Option, Some, None}
use Rattle.call_model.specs.Limits.{greatest_depth}
use Rattle.space_model.specs.Space.{Space, top_of}
use Rattle.space_model.specs.Path.{at}
use Rattle.run_model.specs.Schedule.{is_enabled, step}
use Rattle.run_model.specs.Replay.{replay}
use Rattle.run_model.specs.Demand.{work}
use Rattle.report_model.specs.Report.{line}

-- the event at a path may happen
abbrev pub MayHappen : List ℕ → Space → Type 0
MayHappen p s = is_enabled p greatest_depth s ≡ true

-- the tree after the event at a path
abbrev pub after : List ℕ → Space → Space
after p s = step p greatest_depth s

-- the events at these paths may happen, each in its turn
abbrev pub MayAllHappen : List (List ℕ) → Space → Type 0
MayAllHappen [] s = Unit {0}
MayAllHappen (p ∷ ps) s = MayHappen p s × MayAllHappen ps (after p s)

-- the tree after a schedule, in which a path at which no event may happen changes nothing
abbrev pub after_all : List (List ℕ) → Space → Space
after_all ps s = replay ps greatest_depth s

-- no event may happen any more
abbrev pub NoneMayHappen : Space → Type 0
NoneMayHappen s = (p : List ℕ) → MayHappen p s → ⊥

-- how many events of a schedule happen: a path at which no event may happen in its turn counts nothing, and changes nothing
abbrev pub effective_steps : List (List ℕ) → Space → ℕ
effective_steps [] s = 0
effective_steps (p ∷ ps) s = cond (is_enabled p greatest_depth s) (1 + effective_steps ps (after p s)) (effective_steps ps s)

-- how many events there are until no space in the tree runs
abbrev pub events_left : Space → ℕ
events_left s = work greatest_depth s

-- the second list begins with the first
abbrev pub IsPrefix : List ℕ → List ℕ → Type 0
IsPrefix xs ys = (rest : List ℕ) × (ys ≡ xs ++ rest)

-- the line of a path in the report of a tree, with digests or without, where a space stands there
abbrev pub line_of : Bool → List ℕ → Option Space → List ℕ
line_of digest p None = []
line_of digest p (Some s) = line digest p (top_of s)

abbrev pub line_at : Bool → Space → List ℕ → List ℕ
line_at digest s p = line_of digest p (at p s)
