-- What is left of items that copies share.
-- Our choice: how the code keeps what devices give.
use Rattle.std.specs.Prelude.{ℕ, List, [], Option, Some, None}
use Rattle.std.specs.Arc.{arc_value}
use Rattle.std.specs.declared.sync.Arc.{Arc}
use Rattle.std.specs.declared.vec.Vec.{Vec}
use Rattle.std.specs.declared.alloc.Global.{Global}

-- the items of a shared list, where there is one
abbrev pub items_in : Option (Arc (Vec ℕ Global) Global) → List ℕ
items_in None = []
items_in (Some list) = (arc_value list).items
