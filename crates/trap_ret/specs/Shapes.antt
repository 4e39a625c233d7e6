-- The children that a call waits for, by how they stand.
-- Our choice: a restatement for proofs.
use Rattle.std.specs.Prelude.{◌+◌, ◌≤◌, List, [], ◌∷◌}
use Rattle.space_model.specs.declared.Await.{Await}
use Rattle.space_model.specs.Meeting.{in_row}
use Rattle.trap_ret.specs.declared.call.Shape.{Shape}
use Rattle.trap_ret.specs.declared.call.Shape.TheVariants as shapes

abbrev pub items_of : Shape → List Await
items_of shapes.None = []
items_of (shapes.One a) = a ∷ []
items_of (shapes.Two a b) = a ∷ b ∷ []
items_of (shapes.Row first count) = in_row first count

-- a row of so few, with numbers that children may have
abbrev pub Fits : Shape → Type 0
Fits (shapes.Row first count) = (count ≤ 64) × (first + count ≤ 65536)
Fits s = Unit {0}
