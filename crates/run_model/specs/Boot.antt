-- The root as an image and its devices make it.
-- Our choice: the state in which a root begins.
use Rattle.std.specs.Prelude.{ℕ, ◌+◌, ◌-◌, ◌/◌, List, [], ◌∷◌}
use Rattle.memory_model.specs.Memory.{Memory, no_memory, with_bytes, with_permissions}
use Rattle.memory_model.specs.Sizes.{page_size}
use Rattle.image_model.specs.Image.{Image, Segment, last_page}
use Rattle.device_model.specs.Devices.{Devices}
use Rattle.space_model.specs.Space.{Space, space, none}
use Rattle.space_model.specs.Beginning.{root_of}

-- a segment's bytes, and its permission on each page that it touches
abbrev pub with_segment : Memory → Segment → Memory
with_segment m s = with_permissions (with_bytes m s.address s.content) (s.address / page_size) (last_page s + 1 - s.address / page_size) s.permission

abbrev pub with_segments : Memory → List Segment → Memory
with_segments m [] = m
with_segments m (s ∷ ss) = with_segments (with_segment m s) ss

unfoldable pub boot : Image → Devices → ℕ → Space
boot i devices fuel = space (root_of i.entry i.stack (with_segments no_memory i.segments) fuel devices) none
