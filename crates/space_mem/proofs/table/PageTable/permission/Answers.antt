use Rattle.std.proofs.Common.{◌∙◌, sym, arith}
use Rattle.space_mem.proofs.Tables.{permission_at-of, permission_at-high}
use Rattle.space_mem.proofs.table.PageTable.permission.Goals as goal

pub returns-then-page-lt-PAGES : goal.returns-then-page-lt-PAGES
returns-then-page-lt-PAGES c = c.permission.ensures ∙ sym (permission_at-of c.args.self.now.pages c.args.page (omega arith))

pub returns-else-page-lt-PAGES : goal.returns-else-page-lt-PAGES
returns-else-page-lt-PAGES c = sym (permission_at-high c.args.self.now.pages c.args.page (omega arith))
