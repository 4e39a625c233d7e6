use Rattle.std.proofs.Common.{◌≡◌, ◌++◌, map}
use Rattle.symbols.specs.Symbols.{symbol_of}
use Rattle.image_symbols.proofs.Lists.{symbol_from}
use Rattle.image_symbols.proofs.labels.list_of.Given as goal

abbrev pub invariant-loop-name : goal.invariant-loop-name
invariant-loop-name l = map symbol_of l.symbols.items ++ map symbol_from l.name-iterator ≡ map symbol_from l.labels.entries
