-- A space without its children, at a path of a tree.
-- Our choice: a name for what is handed out of a tree.
use Rattle.std.specs.Prelude.{◌≡◌, ℕ, ◌+◌, ◌≤◌, ◌<◌, ◌^◌, List, true}
use Rattle.space_model.specs.Space.{Top}
use Rattle.space_model.specs.Path.{is_root}
use Rattle.space_model.specs.Sound.{has_devices}

-- it is sound for its fuel and what it has used, as the root or as a space below it
abbrev pub IsSoundAlone : List ℕ → Top → Type 0
IsSoundAlone p t = (1 ≤ t.fuel + t.used) × (t.fuel + t.used < 2 ^ 32) × (has_devices t.devices ≡ is_root true p)
