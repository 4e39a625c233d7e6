-- Tops that have had no event: a space that has never run, and a root that is about to run.
-- Our choice: the state in which a space begins.
use Rattle.std.specs.Prelude.{ℕ, Some, None, slice_set, replicate}
use Rattle.memory_model.specs.Memory.{Memory, no_memory}
use Rattle.space_model.specs.declared.Cause.TheVariants.{Fresh}
use Rattle.space_model.specs.declared.Status.TheVariants.{Running, Stopped}
use Rattle.device_model.specs.Devices.{Devices}
use Rattle.space_model.specs.Space.{Top}

-- a space that has never run, with so much fuel
abbrev pub fresh_top : ℕ → Top
fresh_top fuel = record {
  registers = record { pc = 0; x = replicate 32 0 };
  memory = no_memory;
  snapshot = None;
  limit = None;
  fuel = fuel;
  used = 0;
  status = Stopped Fresh 0;
  devices = None;
}

-- a root that is about to run: x2 is its stack pointer, every other register 0
abbrev pub root_of : ℕ → ℕ → Memory → ℕ → Devices → Top
root_of entry stack memory fuel devices = record {
  registers = record { pc = entry; x = slice_set (replicate 32 0) 2 stack };
  memory = memory;
  snapshot = None;
  limit = None;
  fuel = fuel;
  used = 0;
  status = Running;
  devices = Some devices;
}
