-- Page numbers in a list of so many places. A free place has the number of no page.
-- Our choice: how the code keeps a few marks.
use Rattle.std.specs.Prelude.{ℕ, ◌==◌, ◌||◌, List, Bool}
use Rattle.std.specs.List.{list_any}

-- what a free place has
abbrev pub no_page : ℕ
no_page = 1048576

-- whether a number stands in a list
abbrev pub has_page : List ℕ → ℕ → Bool
has_page list page = list_any (λ q. q == page) list

-- whether a page stands there, or a place is free for it
abbrev pub has_room : List ℕ → ℕ → Bool
has_room list page = has_page list page || has_page list no_page
