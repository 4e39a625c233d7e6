use Rattle.std.proofs.Common.{◌∙◌, sym, refl}
use Rattle.std.proofs.lemmas.Bool.{false≢true}
use Rattle.space_mem.proofs.Tables.{same_held, none_owned}
use Rattle.space_mem.proofs.Updates.{marked_of-none}
use Rattle.space_mem.proofs.table.PageTable.clean.Goals as goal

pub returns-clause-table : goal.returns-clause-table
returns-clause-table c = let table = c.requires.table in record {
  whole = table.whole;
  permission = table.permission;
  marked = λ p low own. absurd (false≢true (sym (none_owned c.args.self.now c.requires.none p low) ∙ own));
  bare = c.none.ensures.bare;
}

pub returns-clause-held : goal.returns-clause-held
returns-clause-held c = same_held _ _ refl refl (marked_of-none c.none.result c.none.ensures.none)
