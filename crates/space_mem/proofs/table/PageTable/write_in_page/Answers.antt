use Rattle.std.proofs.Common.{◌≡◌, ◌∙◌, ◌/◌, ◌%◌, ℕ, sym, ap, arith, refl, subst, true}
use Rattle.std.proofs.lemmas.Bool.{false≢true}
use Rattle.memory_model.specs.Memory.{with_bytes}
use Rattle.page_store.specs.Bytes.{with_bytes_in}
use Rattle.page_tree.specs.Blocks.{bytes_in, is_own_in}
use Rattle.page_tree.specs.Rows.{IsEditedRow}
use Rattle.page_tree.specs.TreeRefs.{root_row, root_own}
use Rattle.space_mem.specs.Held.{Marks}
use Rattle.space_mem.specs.Tables.{held_of, memory_of}
use Rattle.space_mem.proofs.Tables.{same_held, owns_own, marked_at}
use Rattle.space_mem.proofs.Updates.{own_replaceable, own_kept, owned_row}
use Rattle.space_mem.proofs.PageEdits.{written_memory, put_back}
use Rattle.space_mem.proofs.Dirty.{marks_page, bytes_elsewhere}
use Rattle.space_mem.proofs.table.PageTable.write_in_page.Goals as goal

pub replace-requires-clause-ready : goal.replace-requires-clause-ready
replace-requires-clause-ready c = own_replaceable c.args.self.now.pages (c.args.at / 4096) (owns_own c.args.self.now (c.args.at / 4096) (omega arith) c.requires.owned)

pub write_own_bytes-requires-clause-own : goal.write_own_bytes-requires-clause-own
write_own_bytes-requires-clause-own c = ap is_own_in c.in-Some.ensures.was ∙ own_kept c.args.self.now.pages (c.args.at / 4096) (owns_own c.args.self.now (c.args.at / 4096) (omega arith) c.requires.owned)

pub returns-in-Some-clause-table : goal.returns-in-Some-clause-table
returns-in-Some-clause-table c =
    let t = c.args.self.now.pages in
    let page : ℕ = c.args.at / 4096 in
    let was : root_own t page ≡ true = owns_own c.args.self.now page (omega arith) c.requires.owned in
    let edited : IsEditedRow 1048576 page (λ l. with_bytes_in l (c.args.at % 4096) c.args.bytes.now) (root_row t) (root_row c.replace-in-Some.new.self) =
    put_back 1048576 page (λ l. with_bytes_in l (c.args.at % 4096) c.args.bytes.now) (root_row t) (root_row c.replace.new.self) (root_row c.replace-in-Some.new.self) c.write_own_bytes.new.self (omega arith) c.in-Some.ensures.replaced c.replace-in-Some.ensures.replaced
    (c.write_own_bytes.ensures.bytes ∙ ap (λ l. with_bytes_in l (c.args.at % 4096) c.args.bytes.now) (ap bytes_in c.in-Some.ensures.was)) c.write_own_bytes.ensures.own was in
    let table = c.requires.table in record {
      whole = c.replace-in-Some.ensures.whole c.bytes-whole.ensures.whole (c.in-Some.ensures.whole tt table.whole);
      permission = λ p low. omega (arith, edited.permission p low, table.permission p low);
      marked = λ p low own. table.marked p low (sym (edited.own p low) ∙ own);
      bare = table.bare;
    }

pub returns-in-Some-clause-held : goal.returns-in-Some-clause-held
returns-in-Some-clause-held c =
    let t = c.args.self.now.pages in
    let page : ℕ = c.args.at / 4096 in
    let was : root_own t page ≡ true = owns_own c.args.self.now page (omega arith) c.requires.owned in
    let edited : IsEditedRow 1048576 page (λ l. with_bytes_in l (c.args.at % 4096) c.args.bytes.now) (root_row t) (root_row c.replace-in-Some.new.self) =
    put_back 1048576 page (λ l. with_bytes_in l (c.args.at % 4096) c.args.bytes.now) (root_row t) (root_row c.replace.new.self) (root_row c.replace-in-Some.new.self) c.write_own_bytes.new.self (omega arith) c.in-Some.ensures.replaced c.replace-in-Some.ensures.replaced
    (c.write_own_bytes.ensures.bytes ∙ ap (λ l. with_bytes_in l (c.args.at % 4096) c.args.bytes.now) (ap bytes_in c.in-Some.ensures.was)) c.write_own_bytes.ensures.own was in
    let held = same_held (held_of (record { pages = c.replace-in-Some.new.self; dirty = c.args.self.now.dirty; alloc = c.args.self.now.alloc })) (record (held_of c.args.self.now) { memory = with_bytes (memory_of c.args.self.now.pages) c.args.at c.args.bytes.now })
    (written_memory t c.replace-in-Some.new.self c.args.at c.args.bytes.now (omega arith) c.requires.within c.requires.table.whole was edited) (owned_row t c.replace-in-Some.new.self edited.own) refl in
    held

pub returns-in-Some-clause-marks : goal.returns-in-Some-clause-marks
returns-in-Some-clause-marks c =
    let t = c.args.self.now.pages in
    let page : ℕ = c.args.at / 4096 in
    let was : root_own t page ≡ true = owns_own c.args.self.now page (omega arith) c.requires.owned in
    let edited : IsEditedRow 1048576 page (λ l. with_bytes_in l (c.args.at % 4096) c.args.bytes.now) (root_row t) (root_row c.replace-in-Some.new.self) =
    put_back 1048576 page (λ l. with_bytes_in l (c.args.at % 4096) c.args.bytes.now) (root_row t) (root_row c.replace.new.self) (root_row c.replace-in-Some.new.self) c.write_own_bytes.new.self (omega arith) c.in-Some.ensures.replaced c.replace-in-Some.ensures.replaced
    (c.write_own_bytes.ensures.bytes ∙ ap (λ l. with_bytes_in l (c.args.at % 4096) c.args.bytes.now) (ap bytes_in c.in-Some.ensures.was)) c.write_own_bytes.ensures.own was in
    let held = same_held (held_of (record { pages = c.replace-in-Some.new.self; dirty = c.args.self.now.dirty; alloc = c.args.self.now.alloc })) (record (held_of c.args.self.now) { memory = with_bytes (memory_of c.args.self.now.pages) c.args.at c.args.bytes.now })
    (written_memory t c.replace-in-Some.new.self c.args.at c.args.bytes.now (omega arith) c.requires.within c.requires.table.whole was edited) (owned_row t c.replace-in-Some.new.self edited.own) refl in
    subst (Marks (held_of c.args.self.now)) (sym held) (marks_page (held_of c.args.self.now) page (with_bytes (memory_of c.args.self.now.pages) c.args.at c.args.bytes.now) (marked_at c.args.self.now.dirty page (omega arith) ∙ c.requires.table.marked page (omega arith) was)
    (λ p k other low. bytes_elsewhere (memory_of c.args.self.now.pages) c.args.at c.args.bytes.now p k c.requires.within other low))

pub returns-in-None-clause-table : goal.returns-in-None-clause-table
returns-in-None-clause-table c = absurd (false≢true (ap is_own_in c.in-None.ensures.was ∙ own_kept c.args.self.now.pages (c.args.at / 4096) (owns_own c.args.self.now (c.args.at / 4096) (omega arith) c.requires.owned)))

pub returns-in-None-clause-held : goal.returns-in-None-clause-held
returns-in-None-clause-held c = absurd (false≢true (ap is_own_in c.in-None.ensures.was ∙ own_kept c.args.self.now.pages (c.args.at / 4096) (owns_own c.args.self.now (c.args.at / 4096) (omega arith) c.requires.owned)))

pub returns-in-None-clause-marks : goal.returns-in-None-clause-marks
returns-in-None-clause-marks c = absurd (false≢true (ap is_own_in c.in-None.ensures.was ∙ own_kept c.args.self.now.pages (c.args.at / 4096) (owns_own c.args.self.now (c.args.at / 4096) (omega arith) c.requires.owned)))
