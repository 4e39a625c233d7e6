-- What the values of a schedule stand for.
-- Our choice: a restatement for proofs.
use Rattle.std.specs.Prelude.{ℕ, List, map}
use Rattle.arrayvec.specs.ArrayVec.{ArrayVec}
use Rattle.schedule_model.specs.Schedule as model
use Rattle.det_core.specs.declared.schedule_line.Item.{Item}
use Rattle.det_core.specs.declared.schedule_line.Item.TheVariants.{Nothing, Next}

abbrev pub item_view : Item → model.Item
item_view Nothing = model.Nothing
item_view (Next path) = model.Next path.items

abbrev pub path_views : List (ArrayVec ℕ) → List (List ℕ)
path_views paths = map (λ path. path.items) paths
