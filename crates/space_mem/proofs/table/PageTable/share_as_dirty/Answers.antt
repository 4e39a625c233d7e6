use Rattle.std.proofs.Common.{◌∙◌, sym, arith, refl}
use Rattle.std.proofs.lemmas.Bool.{false≢true}
use Rattle.space_mem.proofs.Tables.{same_held, none_owned, owned_same}
use Rattle.space_mem.proofs.Updates.{root_memory, marked_row}
use Rattle.space_mem.proofs.table.PageTable.share_as_dirty.Goals as goal

pub returns-in_err-dirty-clause-same : goal.returns-in_err-dirty-clause-same
returns-in_err-dirty-clause-same c = same_held _ _ refl refl (marked_row c.args.self.now.dirty c.share.new.self c.in_err-dirty.ensures.same)

pub returns-in_err-share-clause-same : goal.returns-in_err-share-clause-same
returns-in_err-share-clause-same c = same_held _ _ refl refl (marked_row c.args.self.now.dirty c.share.new.self c.in_ok-dirty.ensures.same)

pub returns-clause-same : goal.returns-clause-same
returns-clause-same c = same_held _ _ refl refl (marked_row c.args.self.now.dirty c.share.new.self c.in_ok-dirty.ensures.same)

pub returns-clause-copy : goal.returns-clause-copy
returns-clause-copy c = let h = c.in_ok-share.ensures in let table = c.requires.table in record {
  whole = h.whole table.whole;
  permission = λ p low. omega (arith, h.same.permission p low, table.permission p low);
  marked = λ p low own. absurd (false≢true (sym (none_owned c.args.self.now c.requires.none p low) ∙ sym (h.own p low) ∙ own));
  bare = c.in_ok-dirty.ensures.copied table.bare;
}

pub returns-clause-held : goal.returns-clause-held
returns-clause-held c = let h = c.in_ok-share.ensures in
    same_held _ _ (root_memory c.args.self.now.pages c.in_ok-share.field-0 h.same) (owned_same c.args.self.now.pages c.in_ok-share.field-0 h.own)
    (marked_row c.args.self.now.dirty c.in_ok-dirty.dirty c.in_ok-dirty.ensures.copy)
