use Rattle.std.proofs.Common.{◌∙◌, ◌%◌, sym, ap, arith, refl, slice_index}
use Rattle.page_tree.specs.Blocks.{byte_in}
use Rattle.space_mem.proofs.Tables.{byte_at-of}
use Rattle.space_mem.proofs.table.PageTable.byte.Goals as goal

pub returns-in-Some : goal.returns-in-Some
returns-in-Some c = sym (byte_at-of c.args.self.now.pages c.args.at (omega arith) ∙ ap (λ o. byte_in o (c.args.at % 4096)) c.in-Some.ensures.some ∙ ap (λ l. slice_index l (c.args.at % 4096)) (sym c.bytes.ensures.bytes))

pub returns-in-None : goal.returns-in-None
returns-in-None c = sym (byte_at-of c.args.self.now.pages c.args.at (omega arith) ∙ ap (λ o. byte_in o (c.args.at % 4096)) (c.in-None.ensures.none refl))
