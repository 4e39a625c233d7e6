use Rattle.std.proofs.Common.{◌≤◌, ◌∙◌, Some, None, refl, sym, ap, arith}
use Rattle.std.specs.Prelude.{option_map}
use Rattle.std.specs.Box.{with_value}
use Rattle.space_model.specs.Space.{find, is_settled}
use Rattle.space_model.specs.Encoding.{size_of, sizes}
use Rattle.space_tree.specs.Kept.{children_in}
use Rattle.space_tree.proofs.Boxes.{found}
use Rattle.space_tree.proofs.Copies.{child_back}
use Rattle.space_tree.proofs.Looks.{one_running}
use Rattle.space_tree.proofs.Sizes.{child_size}
use Rattle.space_tree.proofs.looking.+look.Goals as goal

pub look_at_entry-look_at-requires : goal.look_at_entry-look_at-requires
look_at_entry-look_at-requires t c =
    let b = c.in-Some.child.now in
    let cs = children_in c.args.entries.now.entries in
    let small : size_of b.value ≤ sizes cs = child_size c.args.number b.value cs (found c.args.number (Some b) cs c.args.entries.now.entries refl c.in-Some.ensures.value) in
    (rw c.deref_mut.ensures.value (omega (arith, small)), tt)

pub look_at_entry-returns-in-Some-clause-settled : goal.look_at_entry-returns-in-Some-clause-settled
look_at_entry-returns-in-Some-clause-settled t c =
    let es = c.args.entries.now.entries in
    ap Some (c.look_at.ensures.settled ∙ ap is_settled c.deref_mut.ensures.value) ∙ ap (option_map is_settled) (found c.args.number (Some c.in-Some.child.now) (children_in es) es refl c.in-Some.ensures.value)

pub look_at_entry-returns-in-Some-clause-same : goal.look_at_entry-returns-in-Some-clause-same
look_at_entry-returns-in-Some-clause-same t c =
    let b = c.in-Some.child.now in
    let w = c.look_at.new.space in
    child_back c.args.number b w c.args.entries.now.entries (c.get_mut.follows.lender (with_value b w)).entries c.in-Some.ensures.value (c.look_at.ensures.same ∙ c.deref_mut.ensures.value) (c.get_mut.follows.holds (with_value b w)).0

pub look_at_entry-returns-in-None-clause-settled : goal.look_at_entry-returns-in-None-clause-settled
look_at_entry-returns-in-None-clause-settled t c =
    let es = c.args.entries.now.entries in
    ap (option_map is_settled) (found c.args.number None (children_in es) es refl c.in-None.ensures.value)

pub is_one_running-returns-in-Some-false-clause-running : goal.is_one_running-returns-in-Some-false-clause-running
is_one_running-returns-in-Some-false-clause-running t c _ =
    one_running c.in-Some.number c.args.children.now
    (ap Some (sym c.in-Some-false.field-0-test) ∙ c.in-Some-false.ensures.settled ∙ ap (λ cs. option_map is_settled (find c.in-Some.number cs)) (c.children-in-loop.view_is ∙ c.loop.invariant))
