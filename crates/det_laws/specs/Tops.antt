-- The tops of a tree by their paths.
-- Our choice: a name for what stands at a path, without its children.
use Rattle.std.specs.Prelude.{ℕ, List, Option, option_map}
use Rattle.space_model.specs.Space.{Top, Space, top_of}
use Rattle.space_model.specs.Path.{at}

-- the top of the space at a path, or none
abbrev pub top_at : List ℕ → Space → Option Top
top_at p s = option_map top_of (at p s)
