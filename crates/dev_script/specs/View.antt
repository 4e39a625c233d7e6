-- What the code's values stand for.
-- Our choice: a restatement for proofs.
use Rattle.std.specs.Prelude.{[], ◌++◌}
use Rattle.device_model.specs.Devices.{Devices}
use Rattle.script_model.specs.Script as model
use Rattle.script_model.specs.Script.{input_in, clocks_in, numbers_in}
use Rattle.dev_script.specs.declared.item.Item.{Item}
use Rattle.dev_script.specs.declared.item.Item.TheVariants.{Nothing, Input, Clock, Random}
use Rattle.dev_script.specs.declared.reading.Script.{Script}

abbrev pub item_view : Item → model.Item
item_view Nothing = model.Nothing
item_view (Input bytes) = model.Input bytes.items
item_view (Clock n) = model.Clock n
item_view (Random n) = model.Random n

-- the devices of the lines so far
abbrev pub script_view : Script → Devices
script_view s = record { input = s.input.items; clocks = s.clocks.items; numbers = s.numbers.items; console = [] }

abbrev pub no_devices : Devices
no_devices = record { input = []; clocks = []; numbers = []; console = [] }

-- the devices with what one line more says
abbrev pub with_item : Devices → model.Item → Devices
with_item d i = record { input = d.input ++ input_in i; clocks = d.clocks ++ clocks_in i; numbers = d.numbers ++ numbers_in i; console = [] }
