use Rattle.std.proofs.Common.{◌≡◌, ℕ, ◌<◌, true, false}
use Rattle.page_tree.specs.Blocks.{page_in, is_own_in, SameBytes, AreWhole}
use Rattle.page_tree.proofs.block.Block.freeze.Given as goal

abbrev pub invariant-loop-j : goal.invariant-loop-j
invariant-loop-j l = record {
  same : SameBytes l.fn.self l.self;
  none : (i : ℕ) → i < l.j → is_own_in (page_in l.self i) ≡ false;
  less : (i : ℕ) → is_own_in (page_in l.self i) ≡ true → is_own_in (page_in l.fn.self i) ≡ true;
  whole : AreWhole l.fn.self → AreWhole l.self;
}
