use Rattle.std.proofs.Common.{◌∙◌, sym, arith}
use Rattle.std.proofs.lemmas.Bool.{false≢true}
use Rattle.space_mem.proofs.Tables.{same_held, none_owned, owned_same}
use Rattle.space_mem.proofs.Updates.{root_memory, marked_of-none}
use Rattle.space_mem.proofs.table.PageTable.share.Goals as goal

pub returns-clause-table : goal.returns-clause-table
returns-clause-table c = let h = c.in_ok-share.ensures in let table = c.requires.table in record {
  whole = h.whole table.whole;
  permission = λ p low. omega (arith, h.same.permission p low, table.permission p low);
  marked = λ p low own. absurd (false≢true (sym (none_owned c.args.self.now c.requires.none p low) ∙ sym (h.own p low) ∙ own));
  bare = c.none.ensures.bare;
}

pub returns-clause-held : goal.returns-clause-held
returns-clause-held c = let h = c.in_ok-share.ensures in
    same_held _ _ (root_memory c.args.self.now.pages c.in_ok-share.field-0 h.same) (owned_same c.args.self.now.pages c.in_ok-share.field-0 h.own) (marked_of-none c.none.result c.none.ensures.none)
