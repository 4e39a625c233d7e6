use Rattle.std.proofs.Common.{◌∙◌, ap, sym}
use Rattle.std.specs.Box.{with_value}
use Rattle.page_tree.specs.declared.branch_ref.BranchRef.TheVariants.{Own}
use Rattle.page_tree.proofs.branch_ref.BranchRef.try_write.Goals as goal

pub returns-in-Own-clause-undone : goal.returns-in-Own-clause-undone
returns-in-Own-clause-undone c kept = ap (λ v. Own (with_value c.in-Own.branch v)) (c.try_write.ensures.undone kept ∙ c.deref_mut.ensures.value) ∙ sym c.in-Own.is
