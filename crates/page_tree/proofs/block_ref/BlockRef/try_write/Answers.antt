use Rattle.std.proofs.Common.{ℕ, List, ◌∙◌, ap, sym, subst}
use Rattle.std.specs.Box.{with_value}
use Rattle.page_tree.specs.declared.block_ref.BlockRef.TheVariants.{Own}
use Rattle.page_store.specs.Bytes.{with_number_in}
use Rattle.page_tree.specs.Rows.{IsEditedRow}
use Rattle.page_tree.specs.Blocks.{AreWhole}
use Rattle.page_tree.specs.BlockRows.{block_row}
use Rattle.page_tree.specs.BlockRefs.{ref_row, AreWholeIn}
use Rattle.page_tree.proofs.block_ref.BlockRef.try_write.Goals as goal

pub returns-in-Own-clause-undone : goal.returns-in-Own-clause-undone
returns-in-Own-clause-undone c kept = ap (λ v. Own (with_value c.in-Own.block v)) (c.try_write.ensures.undone kept ∙ c.deref_mut.ensures.value) ∙ sym c.in-Own.is

pub returns-in-Own-clause-whole : goal.returns-in-Own-clause-whole
returns-in-Own-clause-whole c whole = c.try_write.ensures.whole (subst AreWhole (sym c.deref_mut.ensures.value) (subst AreWholeIn c.in-Own.is whole))

pub returns-in-Own-clause-done : goal.returns-in-Own-clause-done
returns-in-Own-clause-done c written =
    let edit : List ℕ → List ℕ = λ bytes. with_number_in bytes c.args.at c.args.width c.args.value in
    let new = block_row c.try_write.new.self in
    subst (λ r. IsEditedRow 64 c.args.page edit (ref_row r) new) (sym c.in-Own.is) (subst (λ v. IsEditedRow 64 c.args.page edit (block_row v) new) c.deref_mut.ensures.value (c.try_write.ensures.done written))
