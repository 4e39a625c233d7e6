use Rattle.std.proofs.Common.{map}
use Rattle.std.specs.Map.Iter.{deref_pair}
use Rattle.std.proofs.lemmas.Map.Iter.{rest_all}
use Rattle.symbols.specs.Symbols.{symbol_of}
use Rattle.image_symbols.proofs.Lists.{all_listed}
use Rattle.image_symbols.proofs.labels.list_of.Goals as goal

pub returns : goal.returns
returns c = all_listed c.args.labels.now (map symbol_of c.loop-name.symbols.items) c.loop-name.name-iterator (rest_all deref_pair _ _ _ c.in-None.is c.next.ensures.steps) c.loop-name.invariant c.into_iter-name-iterator.ensures.into_iter_gives.5
