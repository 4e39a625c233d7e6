use Rattle.std.proofs.Common.{◌≡◌, ◌-◌, sym, ap, ◌∙◌, subst, arith, length}
use Rattle.std.specs.Prelude.{pred, Some, slice_get}
use Rattle.std.proofs.lemmas.Result.{on_ok_weaker}
use Rattle.space_model.specs.Space.{children_of, find}
use Rattle.path_set.specs.Paths.{Has}
use Rattle.board.specs.Runs.{HasRun}
use Rattle.board.proofs.ByNode.{still_run}
use Rattle.board.proofs.Ways.{length_one_more}
use Rattle.board.proofs.Beginnings.{next_child, both_lists, child_levels, below_child}
use Rattle.board.proofs.beginning.+all.Goals as goal

pub list_all-loop-index-preserved : goal.list_all-loop-index-preserved
list_all-loop-index-preserved t c =
    let so_far = c.loop-index.invariant in
    let q = c.args.path.now.items in
    let numbers = c.in_ok-numbers.numbers.items in
    let i = c.loop-index.index in
    let n = c.number_at-number.result in
    let is : slice_get numbers i ≡ Some n = subst (λ xs. slice_get xs i ≡ Some n) c.deref.ensures.value c.number_at-number.ensures in (
      c.list_child.ensures.places ∙ so_far.0,
      λ node p has. c.list_child.ensures.run node p (so_far.1 node p has),
      λ p has. c.list_child.ensures.calls p (so_far.2 p has),
      (still_run c.loop-index.run c.list_child.new.run c.list_child.ensures.places c.list_child.ensures.run q so_far.3.0, c.list_child.ensures.calls q so_far.3.1),
      next_child (HasRun c.loop-index.run) (Has c.loop-index.calls) (HasRun c.list_child.new.run) (Has c.list_child.new.calls) q c.args.levels c.args.space.now numbers i n is
          so_far.4 (still_run c.loop-index.run c.list_child.new.run c.list_child.ensures.places c.list_child.ensures.run) c.list_child.ensures.calls c.in_ok-list_child.ensures.child,
    )

pub list_all-returns-clause-all : goal.list_all-returns-clause-all
list_all-returns-clause-all t c =
    let so_far = c.loop-index.invariant in
    let numbers = c.in_ok-numbers.numbers.items in
    let end = c.len-index-end.ensures in
    let past = c.loop-index-test.false in
    both_lists (HasRun c.loop-index.run) (Has c.loop-index.calls) c.args.path.now.items c.args.levels c.args.space.now c.space.inside.children c.space.inside.top numbers c.loop-index.index (omega (arith, end, past)) c.space.view_is c.in_ok-numbers.ensures
    so_far.3 so_far.4

pub list_child-child_path-requires : goal.list_child-child_path-requires
list_child-child_path-requires t c =
    let found : find c.args.number (children_of c.args.space.now) ≡ Some c.in-Some.child.now = ap (λ s. find c.args.number (children_of s)) (sym c.space.view_is) ∙ sym c.in-Some.ensures in
    let some = (child_levels c.args.levels c.args.number c.args.space.now c.in-Some.child.now c.requires.sound found).0 in
    let deep = c.requires.deep in
    omega (arith, some, deep)

pub list_child-overflow_sub-levels : goal.list_child-overflow_sub-levels
list_child-overflow_sub-levels t c =
    let found : find c.args.number (children_of c.args.space.now) ≡ Some c.in-Some.child.now = ap (λ s. find c.args.number (children_of s)) (sym c.space.view_is) ∙ sym c.in-Some.ensures in
    (child_levels c.args.levels c.args.number c.args.space.now c.in-Some.child.now c.requires.sound found).0

pub list_child-list_all-requires : goal.list_child-list_all-requires
list_child-list_all-requires t c =
    let found : find c.args.number (children_of c.args.space.now) ≡ Some c.in-Some.child.now = ap (λ s. find c.args.number (children_of s)) (sym c.space.view_is) ∙ sym c.in-Some.ensures in
    let child = child_levels c.args.levels c.args.number c.args.space.now c.in-Some.child.now c.requires.sound found in
    let some = child.0 in
    let deep = c.requires.deep in
    let long = ap length c.in_ok-below.ensures ∙ length_one_more c.args.path.now.items c.args.number in
    (omega (arith, some), (child.1, omega (arith, some, deep, long)))

pub list_child-returns-clause-child : goal.list_child-returns-clause-child
list_child-returns-clause-child t c =
    let found : find c.args.number (children_of c.args.space.now) ≡ Some c.in-Some.child.now = ap (λ s. find c.args.number (children_of s)) (sym c.space.view_is) ∙ sym c.in-Some.ensures in
    let fewer : c.args.levels - 1 ≡ pred c.args.levels = omega arith in
    on_ok_weaker c.list_all.result
    (λ e. (
      below_child (HasRun c.list_all.new.run) c.args.path.now.items c.in_ok-below.below.items c.args.levels (c.args.levels - 1) c.args.number c.args.space.now c.in-Some.child.now found c.in_ok-below.ensures fewer e.0,
      below_child (Has c.list_all.new.calls) c.args.path.now.items c.in_ok-below.below.items c.args.levels (c.args.levels - 1) c.args.number c.args.space.now c.in-Some.child.now found c.in_ok-below.ensures fewer e.1,
    ))
    c.list_all.ensures.all
