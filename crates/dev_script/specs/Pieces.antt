-- What pieces of a console hold.
-- Our choice: how the code keeps what was written to a console.
use Rattle.std.specs.Prelude.{ℕ, List}
use Rattle.std.specs.Arc.{arc_value}
use Rattle.std.specs.List.{flat_map}
use Rattle.std.specs.declared.sync.Arc.{Arc}
use Rattle.std.specs.declared.vec.Vec.{Vec}
use Rattle.std.specs.declared.alloc.Global.{Global}

-- the bytes of pieces, one after the other
abbrev pub bytes_in : List (Arc (Vec ℕ Global) Global) → List ℕ
bytes_in pieces = flat_map (λ (p : Arc (Vec ℕ Global) Global). (arc_value p).items) pieces
