use Rattle.std.proofs.Common.{◌∙◌, ap, arith, refl}
use Rattle.page_tree.specs.Blocks.{byte_in}
use Rattle.space_mem.proofs.Tables.{byte_at-page}
use Rattle.space_mem.proofs.table.PageTable.next_kept.Goals as goal

pub returns-in-Some-clause-some : goal.returns-in-Some-clause-some
returns-in-Some-clause-some c = let h = c.in-Some.ensures in record {
  above = h.from;
  below = h.within;
  zero = λ q k low high below. byte_at-page c.args.self.now.pages q k (omega (arith, h.within)) below ∙ ap (λ o. byte_in o k) (h.least q low high);
}

pub returns-in-None-clause-none : goal.returns-in-None-clause-none
returns-in-None-clause-none c none q k low high below = byte_at-page c.args.self.now.pages q k (omega arith) below ∙ ap (λ o. byte_in o k) (c.in-None.ensures.none refl q low high)
