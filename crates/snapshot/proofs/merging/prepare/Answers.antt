use Rattle.std.proofs.Common.{◌≡◌, ◌+◌, All, subst, sym}
use Rattle.merge_model.proofs.Merges.{first_conflict-none}
use Rattle.snapshot.proofs.Sorted.{sorted_owned}
use Rattle.snapshot.proofs.merging.prepare.Goals as goal

pub returns-clause-sorted : goal.returns-clause-sorted
returns-clause-sorted c =
    sorted_owned c.args.parent.now c.own_each.new.memory c.args.child.now c.args.snapshot.now.memory c.args.range.first (c.args.range.first + c.args.range.count) (c.args.range.first + c.args.range.count) c.in_ok-found.found
    c.in_ok-own_each.ensures.same c.in_ok-own_each.ensures.stays (λ p none. c.in_ok-own_each.ensures.others p (subst (All (λ own. p ≡ own → ⊥)) (sym c.deref-2.ensures.value) none)) c.in_ok-found.ensures.sorted

pub returns-clause-sure : goal.returns-clause-sure
returns-clause-sure c = first_conflict-none c.args.agree c.args.snapshot.now.memory c.args.child.now.memory c.args.parent.now.memory c.args.range.first c.args.range.count c.in_ok-found.ensures.sure
