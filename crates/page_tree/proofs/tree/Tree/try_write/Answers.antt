use Rattle.std.proofs.Common.{arith, ◌/◌}
use Rattle.page_store.specs.Bytes.{with_number_in}
use Rattle.page_tree.proofs.LimbEdits.{edited_set, whole_set}
use Rattle.page_tree.proofs.tree.Tree.try_write.Goals as goal

pub returns-clause-done : goal.returns-clause-done
returns-clause-done c written = edited_set c.args.self.now.branches c.args.page c.index-self-page.result c.try_write.new.self (λ bytes. with_number_in bytes c.args.at c.args.width c.args.value) (omega (arith, c.requires.page)) (c.try_write.ensures.done written)

pub returns-clause-whole : goal.returns-clause-whole
returns-clause-whole c = whole_set c.args.self.now.branches (c.args.page / 8192) c.index-self-page.result c.try_write.new.self (omega (arith, c.requires.page)) c.try_write.ensures.whole
