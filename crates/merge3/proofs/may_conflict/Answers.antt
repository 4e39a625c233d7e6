use Rattle.std.proofs.Common.{eqb-true, true, false}
use Rattle.std.proofs.lemmas.Bool.{not-false}
use Rattle.merge3.proofs.Lanes.{none_in_lanes}
use Rattle.merge3.proofs.may_conflict.Goals.{then-agree, else-agree}
use Rattle.merge3.proofs.may_conflict.Goals as goal

pub returns : goal.returns
returns c clear =
    let s = c.args.snapshot.now in
    let d = c.args.child.now in
    let p = c.args.parent.now in
    let at = c.args.at in
    elim c.if-agree.branch [
      | then-agree w ↦ rw w.if-agree.true (none_in_lanes true s d p c.if-agree.conflicts at c.requires.snapshot c.requires.child c.requires.parent w.conflicts-is (eqb-true _ _ (not-false _ clear)))
      | else-agree w ↦ rw w.if-agree.false (none_in_lanes false s d p c.if-agree.conflicts at c.requires.snapshot c.requires.child c.requires.parent w.conflicts-is (eqb-true _ _ (not-false _ clear)))
    ]
