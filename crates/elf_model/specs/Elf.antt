-- The image of an executable file: where its header says that it begins, a stack below 2 ^ 32, and what its loads state.
-- Source: System V Application Binary Interface, "Program Loading".
-- Our choice: the stack, and segments of whole pages.
use Rattle.std.specs.Prelude.{◌≡◌, ℕ, Bool, ◌&&◌, ◌==◌, nat_le, List, length, map}
use Rattle.std.specs.Int.{w32, from_le_bytes}
use Rattle.image_model.specs.Image.{Image}
use Rattle.elf_model.specs.Header.{mark, mark_of, entry_of}
use Rattle.elf_model.specs.Loads.{stack_pointer, parts_of}
use Rattle.elf_model.specs.Pages.{Run, RunsOf, segment_of}
use Rattle.elf_model.specs.Needs.{AreMet, needs}

-- the grammar: the file has all that it needs, and the image's segments are the maximal runs of pages, with the bytes that stand there
pub record ElfOf (bytes : List ℕ) (i : Image) : Type 0 where
  pub met : AreMet (needs bytes)
  pub entry : i.entry ≡ entry_of bytes
  pub stack : i.stack ≡ stack_pointer
  pub runs : List Run
  pub are_runs : RunsOf (parts_of bytes) runs
  pub segments : i.segments ≡ map (segment_of (parts_of bytes)) runs

-- the file is to be read as an executable file
abbrev pub is_elf : List ℕ → Bool
is_elf bytes = nat_le 4 (length bytes) && (mark_of bytes == from_le_bytes w32 mark)
