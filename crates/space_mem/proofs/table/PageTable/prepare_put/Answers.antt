use Rattle.std.proofs.Common.{◌∙◌, sym}
use Rattle.space_mem.proofs.Tables.{byte_at-page}
use Rattle.space_mem.proofs.table.PageTable.prepare_put.Goals as goal

pub returns-clause-ready : goal.returns-clause-ready
returns-clause-ready c = λ m same. record {
  within = c.requires.page;
  byte = λ k low. c.in_ok-kept.ensures.byte k ∙ sym (byte_at-page c.args.source.now.pages c.args.from k c.requires.from low) ∙ sym (same k low);
  whole = c.in_ok-kept.ensures.whole;
  ready = c.in_ok-prepare_page.ensures.ready;
  marked = c.in_ok-prepare_page.ensures.marked;
}
