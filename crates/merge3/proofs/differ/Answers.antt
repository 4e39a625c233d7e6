use Rattle.std.proofs.Common.{eq-eqb, eqb-true, sym, true≢false, ◌∙◌}
use Rattle.std.proofs.lemmas.Bool.{not-false, not-true}
use Rattle.merge3.proofs.Lanes.{same_in_lanes, empty_where_same}
use Rattle.merge3.proofs.differ.Goals as goal

pub returns-clause-same : goal.returns-clause-same
returns-clause-same c clear = same_in_lanes c.args.a.now c.args.b.now c.args.at c.requires.a c.requires.b (eqb-true _ _ (not-false _ clear))

pub returns-clause-other : goal.returns-clause-other
returns-clause-other c set same =
    let zero = eq-eqb _ _ (empty_where_same c.args.a.now c.args.b.now c.args.at same) in
    true≢false (sym zero ∙ not-true _ set)
