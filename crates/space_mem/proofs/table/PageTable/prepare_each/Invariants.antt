use Rattle.std.proofs.Common.{◌≡◌, All, take}
use Rattle.std.specs.Prelude.{map}
use Rattle.space_mem.specs.Tables.{memory_of}
use Rattle.space_mem.specs.Taken.{IsPrepared, IsReadyPut, put_page}
use Rattle.space_mem.proofs.table.PageTable.prepare_each.Given as goal

abbrev pub invariant-loop-page : goal.invariant-loop-page
invariant-loop-page l = record {
  prepared : IsPrepared l.each l.fn.self l.self;
  pages : map put_page l.puts.items ≡ take l.page-index l.each;
  ready : All (IsReadyPut l.self (memory_of l.source.pages)) l.puts.items;
}
