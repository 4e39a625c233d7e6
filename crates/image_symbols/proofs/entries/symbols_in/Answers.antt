use Rattle.std.proofs.Common.{ℕ, ◌*◌, ◌/◌, length, map, rules}
use Rattle.symbols.specs.Symbols.{symbol_of}
use Rattle.image_symbols.specs.Entries.{entry_size, symbol_at, symbols_in}
use Rattle.image_symbols.proofs.Ranges.{one_more}
use Rattle.image_symbols.proofs.entries.symbols_in.Goals as goal

pub loop-k-init : goal.loop-k-init
unfolding symbols_in
loop-k-init c = search rules

pub loop-k-preserved : goal.loop-k-preserved
loop-k-preserved c =
    one_more (λ (k : ℕ). symbol_at c.args.table.now c.args.names.now (entry_size * k)) c.loop-k.k (length c.args.table.now / entry_size) (map symbol_of c.loop-k.symbols.items) (map symbol_of c.push_symbol.new.symbols.items)
    (symbols_in c.args.table.now c.args.names.now) c.loop-k-test.true c.in_ok-push_symbol.ensures c.loop-k.invariant
