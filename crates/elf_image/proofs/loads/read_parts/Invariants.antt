use Rattle.std.proofs.Common.{◌≡◌, ◌+◌, ◌*◌, ◌-◌, ◌++◌, []}
use Rattle.elf_model.specs.Header.{program_header_size}
use Rattle.elf_model.specs.Loads.{loads_from}
use Rattle.elf_model.specs.Needs.{headers_need}
use Rattle.elf_model.specs.Reading.{first_fault}
use Rattle.elf_image.specs.View.{load_views, AddUp}
use Rattle.elf_image.proofs.loads.read_parts.Given as goal

abbrev pub invariant-loop : goal.invariant-loop
invariant-loop l = record {
  tried : first_fault (headers_need (load_views l.loads.parts.items) l.at (l.fn.table.count - l.counter) l.bytes) ≡ first_fault (headers_need [] l.fn.table.at l.fn.table.count l.bytes);
  taken : load_views l.loads.parts.items ++ loads_from l.at (l.fn.table.count - l.counter) l.bytes ≡ loads_from l.fn.table.at l.fn.table.count l.bytes;
  sums : AddUp l.loads;
  place : l.at ≡ l.fn.table.at + program_header_size * l.counter;
}
