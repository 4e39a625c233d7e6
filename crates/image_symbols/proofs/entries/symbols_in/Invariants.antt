use Rattle.std.proofs.Common.{◌≡◌, ◌*◌, ◌/◌, ◌-◌, ◌++◌, length, map}
use Rattle.std.specs.List.{filter_map, range_with_len}
use Rattle.symbols.specs.Symbols.{symbol_of}
use Rattle.image_symbols.specs.Entries.{entry_size, symbol_at, symbols_in}
use Rattle.image_symbols.proofs.entries.symbols_in.Given as goal

abbrev pub invariant-loop-k : goal.invariant-loop-k
invariant-loop-k l =
    map symbol_of l.symbols.items ++ filter_map (λ k. symbol_at l.table l.names (entry_size * k)) (range_with_len l.k (length l.table / entry_size - l.k)) ≡ symbols_in l.table l.names
