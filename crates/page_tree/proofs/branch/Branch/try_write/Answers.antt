use Rattle.std.proofs.Common.{arith}
use Rattle.page_store.specs.Bytes.{with_number_in}
use Rattle.page_tree.proofs.BlockEdits.{edited_set}
use Rattle.page_tree.proofs.branch.Branch.try_write.Goals as goal

pub returns-clause-done : goal.returns-clause-done
returns-clause-done c written = edited_set c.args.self.now.blocks c.args.page c.index-self-page.result c.try_write.new.self (λ bytes. with_number_in bytes c.args.at c.args.width c.args.value) (omega (arith, c.requires.page)) (c.try_write.ensures.done written)
