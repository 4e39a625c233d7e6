use Rattle.symbols.proofs.Lookup.{found_none, found_some}
use Rattle.symbols.proofs.symbol.Symbols.place_at.Goals as goal

pub returns-then-count-eq0 : goal.returns-then-count-eq0
returns-then-count-eq0 c = found_none _ _ _ _ _ c.self.view_is c.deref.ensures.value c.count_up_to-count.ensures.point c.if-count-eq0.true

pub returns : goal.returns
returns c = found_some _ _ _ _ _ _ _ c.self.view_is c.deref.ensures.value c.count_up_to-count.ensures.point c.count_up_to-count.ensures.bound c.if-count-eq0.false c.index-symbol.ensures c.deref-2.ensures.value
