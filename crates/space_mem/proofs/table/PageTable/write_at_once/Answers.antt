use Rattle.std.proofs.Common.{◌∙◌, ◌/◌, ◌≡◌, true, sym, ap, arith, eq-eqb}
use Rattle.page_tree.specs.TreeRefs.{root_own}
use Rattle.space_mem.specs.Tables.{owned_of, marked_of}
use Rattle.space_mem.proofs.Tables.{same_held, owned_at, marked_at, may_write-of}
use Rattle.space_mem.proofs.Updates.{owned_row, put_again}
use Rattle.space_mem.proofs.PageEdits.{stored_memory}
use Rattle.std.specs.Prelude.{cond}
use Rattle.space_mem.proofs.table.PageTable.write_at_once.Goals as goal

pub returns-clause-done : goal.returns-clause-done
returns-clause-done c done =
    let h = c.try_write.ensures in
    let t = c.args.self.now.pages in
    let page = c.args.at / 4096 in
    let edited = h.done done in
    let own : root_own t page ≡ true = h.own done in
    same_held _ _ (stored_memory t c.try_write.new.self c.args.at c.args.width c.args.value (omega arith) c.requires.aligned c.requires.table.whole own edited)
    (owned_row t c.try_write.new.self edited.own ∙ sym (put_again (owned_of t) page 1 (owned_at t page (omega arith) ∙ ap (λ b. cond b 1 0) own)))
    (sym (put_again (marked_of c.args.self.now.dirty) page 1 (marked_at c.args.self.now.dirty page (omega arith) ∙ c.requires.table.marked page (omega arith) own)))

pub returns-clause-allowed : goal.returns-clause-allowed
returns-clause-allowed c done = may_write-of c.args.self.now.pages c.args.at (omega arith) ∙ eq-eqb _ 1 (c.try_write.ensures.allowed done)
