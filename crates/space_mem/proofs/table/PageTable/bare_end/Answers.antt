use Rattle.std.proofs.Common.{◌∙◌, ap, sym, arith}
use Rattle.page_tree.specs.Blocks.{byte_in}
use Rattle.space_mem.proofs.Tables.{byte_at-page, permission_at-of}
use Rattle.space_mem.proofs.table.PageTable.bare_end.Goals as goal

pub returns-clause-zero : goal.returns-clause-zero
returns-clause-zero c q k low high below = byte_at-page c.args.self.now.pages q k (omega (arith, c.bare_end.ensures.within)) below ∙ ap (λ o. byte_in o k) (c.bare_end.ensures.bare q low high).0

pub returns-clause-permission : goal.returns-clause-permission
returns-clause-permission c q low high =
    permission_at-of c.args.self.now.pages q (omega (arith, c.bare_end.ensures.within))
    ∙ (c.bare_end.ensures.bare q low high).1
    ∙ sym (permission_at-of c.args.self.now.pages c.args.page (omega arith))
