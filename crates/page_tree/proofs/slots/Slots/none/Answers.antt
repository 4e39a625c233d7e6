use Rattle.std.proofs.Common.{None, rules, arith, inl, inr, sym}
use Rattle.std.proofs.lemmas.Bool.{cases_lt}
use Rattle.std.proofs.lemmas.List.{get_or_past}
use Rattle.page_tree.proofs.Counts.{count_none}
use Rattle.page_tree.proofs.slots.Slots.none.Goals as goal

pub invariant_of-result : goal.invariant_of-result
invariant_of-result c = record {
  sized = c.from_fn.ensures.items.long;
  counted = sym (count_none c.from_fn.result (λ j. elim (cases_lt j 64) [
    | inl below ↦ let called = (c.from_fn.ensures.items.at j None below).2 in search rules
    | inr above ↦ get_or_past c.from_fn.result j None (omega (arith, c.from_fn.ensures.items.long))
  ]));
}

pub returns : goal.returns
returns c j = elim (cases_lt j 64) [
  | inl below ↦ let called = (c.from_fn.ensures.items.at j None below).2 in search rules
  | inr above ↦ get_or_past c.from_fn.result j None (omega (arith, c.from_fn.ensures.items.long))
]
