use Rattle.std.proofs.Common.{◌≡◌, ◌∙◌, None, Some, refl, ap, subst}
use Rattle.std.specs.Prelude.{Option, IfOk, option_map, option_and_then}
use Rattle.std.specs.Box.{with_value}
use Rattle.space_model.specs.Space.{Space, top_of}
use Rattle.space_model.specs.Path.{at}
use Rattle.space_tree.specs.Kept.{children_in}
use Rattle.space_tree.proofs.Boxes.{found}
use Rattle.space_tree.proofs.Copies.{child_back}
use Rattle.space_tree.proofs.top_copies.+copy_at.Goals as goal

pub copy_below-returns-in-Some-clause-same : goal.copy_below-returns-in-Some-clause-same
copy_below-returns-in-Some-clause-same t c =
    let b = c.in-Some.child.now in
    let w = c.copy_at.new.space in
    child_back c.args.number b w c.args.entries.now.entries (c.get_mut.follows.lender (with_value b w)).entries c.in-Some.ensures.value (c.copy_at.ensures.same ∙ c.deref_mut.ensures.value) (c.get_mut.follows.holds (with_value b w)).0

pub copy_below-returns-in-Some-clause-equal : goal.copy_below-returns-in-Some-clause-equal
copy_below-returns-in-Some-clause-equal t c =
    let es = c.args.entries.now.entries in
    let here = found c.args.number (Some c.in-Some.child.now) (children_in es) es refl c.in-Some.ensures.value in
    let own = subst (λ (s : Space). IfOk c.copy_at.result (λ copy. copy ≡ option_map top_of (at c.args.rest.now s))) c.deref_mut.ensures.value c.copy_at.ensures.equal in
    subst (λ (o : Option Space). IfOk c.copy_at.result (λ copy. copy ≡ option_map top_of (option_and_then (at c.args.rest.now) o))) here own

pub copy_below-returns-in-None-clause-equal : goal.copy_below-returns-in-None-clause-equal
copy_below-returns-in-None-clause-equal t c =
    let es = c.args.entries.now.entries in
    ap (λ (o : Option Space). option_map top_of (option_and_then (at c.args.rest.now) o)) (found c.args.number None (children_in es) es refl c.in-None.ensures.value)
