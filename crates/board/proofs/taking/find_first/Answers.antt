use Rattle.std.proofs.Common.{◌≡◌, ℕ, [], sym, ap, ◌∙◌, subst}
use Rattle.arrayvec.specs.ArrayVec.{ArrayVec}
use Rattle.path_set.specs.Paths.{IsFirst}
use Rattle.node_places.specs.Places.{place_of}
use Rattle.board.specs.Jobs.{MayBeTaken}
use Rattle.board.specs.Listed.{IsListed}
use Rattle.board.specs.Runs.{Runs, list_on}
use Rattle.board.proofs.Kept.{run_dropped}
use Rattle.board.proofs.taking.find_first.Goals as goal

pub loop-first-preserved : goal.loop-first-preserved
loop-first-preserved c = (
  ap (λ (r : Runs). r.places) c.drop_first_on.ensures ∙ c.loop-first.invariant.0,
  λ calls out works listed.
      subst (λ run. IsListed c.args.tree.now run calls [] out) (sym c.drop_first_on.ensures)
      (run_dropped c.args.tree.now c.loop-first.run calls out c.args.node c.in-Some.first.now.items (c.loop-first.invariant.1 calls out works listed) c.in-Some.ensures.some
      (λ there goes. works.0 c.in-Some.first.now.items (c.may_be_taken_on.ensures.no c.if-may_be_taken_on.false (ap (λ (r : Runs). place_of r.places c.in-Some.first.now.items) c.run.view_is ∙ there) goes))),
)

pub returns-then-may_be_taken_on-clause-some : goal.returns-then-may_be_taken_on-clause-some
returns-then-may_be_taken_on-clause-some c =
    let same = c.in_ok-copy_path.ensures in
    let yes = c.may_be_taken_on.ensures.yes c.if-may_be_taken_on.true in (
      subst (λ (p : ArrayVec ℕ). IsFirst p.items (list_on c.loop-first.run c.args.node)) (sym same) c.in-Some.ensures.some,
      subst (λ (p : ArrayVec ℕ). place_of (let run = c.loop-first.run in run.places) p.items ≡ c.args.node) (sym same) (sym (ap (λ (r : Runs). place_of r.places c.in-Some.first.now.items) c.run.view_is) ∙ yes.0),
      λ out works. subst (λ (p : ArrayVec ℕ). MayBeTaken c.args.tree.now out p.items) (sym same) (yes.1 out works),
    )
