-- Loads and runs as contracts see them, and what the trial of needs answers.
-- Our choice: a restatement for proofs.
use Rattle.std.specs.Prelude.{◌≡◌, ◌<◌, ◌≤◌, List, map, Option, None, Some, Result, Ok, Err}
use Rattle.fault_model.specs.declared.fault.Fault.{Fault}
use Rattle.fault_model.specs.declared.fault.Fault.TheVariants as faults
use Rattle.elf_model.specs.declared.error.ElfError.{ElfError}
use Rattle.elf_model.specs.Loads as model
use Rattle.elf_model.specs.Pages as pages
use Rattle.memory_model.specs.Sizes as sizes
use Rattle.elf_image.specs.declared.load.Load.{Load}
use Rattle.elf_image.specs.declared.runs.Run.{Run}
use Rattle.elf_image.specs.declared.loads.Loads.{Loads}
use Rattle.elf_model.specs.Needs.{end_after, memory_of, greatest_memory}

abbrev pub load_view : Load → model.Load
load_view l = record { address = l.address; size = l.size; permission = l.permission; content = l.content.now }

abbrev pub load_views : List Load → List model.Load
load_views ls = map load_view ls

abbrev pub run_view : Run → pages.Run
run_view r = record { first = r.first; end = r.end; permission = r.permission }

abbrev pub run_views : List Run → List pages.Run
run_views rs = map run_view rs

-- this is the first fault, or memory ran out
abbrev pub Missed : Fault ElfError → Option ElfError → Type 0
Missed faults.Memory fault = Unit {0}
Missed (faults.Bad e) fault = fault ≡ Some e

-- needs were tried, and this is the first fault; or memory ran out
abbrev pub Tried : {X : Type 0} → Result X (Fault ElfError) → Option ElfError → Type 0
Tried (Ok x) fault = fault ≡ None
Tried (Err e) fault = Missed e fault

-- what is kept beside loads is what they add up to
pub record AddUp (l : Loads) : Type 0 where
  pub end : l.end ≡ end_after 0 (load_views l.parts.items)
  pub memory : l.memory ≡ memory_of (load_views l.parts.items)
  pub most : memory_of (load_views l.parts.items) ≤ greatest_memory

-- pages of a memory
pub record IsWithin (r : pages.Run) : Type 0 where
  pub filled : r.first < r.end
  pub below : r.end ≤ sizes.pages
