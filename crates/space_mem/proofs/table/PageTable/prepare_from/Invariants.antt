use Rattle.std.proofs.Common.{◌≡◌, All, take}
use Rattle.std.specs.Prelude.{map}
use Rattle.memory_model.specs.Memory.{Memory}
use Rattle.space_mem.specs.Tables.{memory_of}
use Rattle.space_mem.specs.Taken.{IsFrom, IsPrepared, IsReadyPut, put_page, taken_page}
use Rattle.space_mem.proofs.table.PageTable.prepare_from.Given as goal

abbrev pub invariant-loop-taken : goal.invariant-loop-taken
invariant-loop-taken l = record {
  prepared : IsPrepared (map taken_page l.each) l.fn.self l.self;
  pages : map put_page l.puts.items ≡ map taken_page (take l.taken-index l.each);
  ready : (m : Memory) → All (IsFrom (memory_of l.source.pages) m) l.each → All (IsReadyPut l.self m) l.puts.items;
}
