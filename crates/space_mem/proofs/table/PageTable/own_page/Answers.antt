use Rattle.std.proofs.Common.{◌∙◌, sym, eq-eqb}
use Rattle.std.proofs.lemmas.Bool.{false≢true}
use Rattle.space_mem.proofs.Tables.{owns_own}
use Rattle.space_mem.specs.declared.table.PageTable.{PageTable}
use Rattle.space_mem.specs.Held.{owning}
use Rattle.space_mem.specs.Tables.{held_of, memory_of}
use Rattle.space_mem.proofs.Kept.{always, owned_again, owned_dirty}
use Rattle.space_mem.proofs.table.PageTable.own_page.Goals as goal

pub returns-then-has-clause-idle : goal.returns-then-has-clause-idle
returns-then-has-clause-idle c owns = c.own_dirty_page.ensures.idle (owns_own c.args.self.now c.args.page c.requires.page owns)

pub returns-then-has-clause-again : goal.returns-then-has-clause-again
returns-then-has-clause-again c owns =
    let h = c.own_dirty_page.ensures in
    let t : PageTable = c.args.self.now in
    always c.own_dirty_page.result (held_of c.own_dirty_page.new.self) (owning (held_of t) c.args.page (memory_of t.pages)) (held_of t) h.ok h.err (owned_again (held_of t) c.args.page (memory_of t.pages) owns (owned_dirty t c.args.page c.requires.table c.requires.page owns))

pub returns-else-has-clause-again : goal.returns-else-has-clause-again
returns-else-has-clause-again c owns = absurd (false≢true (sym c.if-has.false ∙ c.has.ensures ∙ eq-eqb _ 1 (c.requires.table.marked c.args.page c.requires.page (owns_own c.args.self.now c.args.page c.requires.page owns))))

pub returns-else-has-clause-idle : goal.returns-else-has-clause-idle
returns-else-has-clause-idle c owns = absurd (false≢true (sym c.if-has.false ∙ c.has.ensures ∙ eq-eqb _ 1 (c.requires.table.marked c.args.page c.requires.page (owns_own c.args.self.now c.args.page c.requires.page owns))))
