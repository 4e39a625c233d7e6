use Rattle.std.proofs.Common.{◌∙◌, ap, arith, refl}
use Rattle.page_tree.specs.Blocks.{byte_in}
use Rattle.space_mem.proofs.Tables.{byte_at-page, byte_at-high}
use Rattle.space_mem.proofs.Updates.{page_of}
use Rattle.space_mem.proofs.table.PageTable.page.Goals as goal

pub returns-then-page-ge-PAGES-clause-none : goal.returns-then-page-ge-PAGES-clause-none
returns-then-page-ge-PAGES-clause-none c none k below = byte_at-high c.args.self.now.pages _ (omega arith)

pub returns-in-Some-clause-some : goal.returns-in-Some-clause-some
returns-in-Some-clause-some c = page_of c.args.self.now c.args.page c.in-Some.kept.now c.requires (omega arith) c.in-Some.ensures.some

pub returns-in-None-clause-none : goal.returns-in-None-clause-none
returns-in-None-clause-none c none k below = byte_at-page c.args.self.now.pages c.args.page k (omega arith) below ∙ ap (λ o. byte_in o k) (c.in-None.ensures.none refl)
