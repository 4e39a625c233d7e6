-- The image of an executable file, found; or its first fault.
-- Our choice: a computation of what the laws determine.
-- Laws: crates/elf_model/src/laws.rt
use Rattle.std.specs.Prelude.{ℕ, zero, suc, ◌+◌, Bool, ◌&&◌, ◌==◌, cond, List, [], ◌∷◌, map, Option, Some, None, Result, Ok, Err}
use Rattle.memory_model.specs.Sizes.{pages}
use Rattle.image_model.specs.Image.{Image}
use Rattle.elf_model.specs.declared.error.ElfError.{ElfError}
use Rattle.elf_model.specs.Header.{entry_of}
use Rattle.elf_model.specs.Loads.{Load, parts_of, stack_pointer}
use Rattle.elf_model.specs.Pages.{Run, is_touched, permission_of, segment_of}
use Rattle.elf_model.specs.Needs.{Need, fault_of, needs}

-- ---- the first need that is not met

abbrev pub first_fault : List Need → Option ElfError
first_fault [] = None
first_fault (n ∷ ns) = cond n.met (first_fault ns) (Some (fault_of n))

-- ---- runs, page by page

-- pages before runs of pages above them: one run with the first of those, if it adjoins and has the same permission
abbrev pub join : Run → List Run → List Run
join r [] = r ∷ []
join r (s ∷ rs) = cond ((s.first == r.end) && (s.permission == r.permission)) (record { first = r.first; end = s.end; permission = r.permission } ∷ rs) (r ∷ s ∷ rs)

-- the runs of so many pages from a page on
unfoldable pub runs_from : (ℕ → Bool) → (ℕ → ℕ) → ℕ → ℕ → List Run
runs_from touched permission page zero = []
runs_from touched permission page (suc n) = cond (touched page) (join (record { first = page; end = page + 1; permission = permission page }) (runs_from touched permission (page + 1) n)) (runs_from touched permission (page + 1) n)

abbrev pub runs_of : List Load → List Run
runs_of ls = runs_from (is_touched ls) (permission_of ls) 0 pages

-- ---- images

abbrev pub image_stated : List ℕ → Image
image_stated bytes = record { entry = entry_of bytes; stack = stack_pointer; segments = map (segment_of (parts_of bytes)) (runs_of (parts_of bytes)) }

abbrev pub unless_fault : Option ElfError → Image → Result Image ElfError
unless_fault None i = Ok i
unless_fault (Some e) i = Err e

-- the image of an executable file, or its first fault
unfoldable pub elf_of : List ℕ → Result Image ElfError
elf_of bytes = unless_fault (first_fault (needs bytes)) (image_stated bytes)
