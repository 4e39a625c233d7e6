-- The devices of lines one after the other, as a loop takes them.
use Rattle.std.proofs.Common.{◌≡◌, List, [], ◌∷◌, ◌++◌, ap, ◌∙◌}
use Rattle.std.proofs.lemmas.Grind.{flat_map-append}
use Rattle.std.proofs.lemmas.List.{append-nil}
use Rattle.device_model.specs.Devices.{Devices}
use Rattle.script_model.specs.Script.{Item, devices_from}
use Rattle.dev_script.specs.View.{with_item}

add_last : (front : List Item) (i : Item) → with_item (devices_from front) i ≡ devices_from (front ++ i ∷ [])
add_last front i = simp (flat_map-append, append-nil)

pub one_more : (d : Devices) (front : List Item) (i : Item) → d ≡ devices_from front → with_item d i ≡ devices_from (front ++ i ∷ [])
one_more d front i made = ap (λ (x : Devices). with_item x i) made ∙ add_last front i
