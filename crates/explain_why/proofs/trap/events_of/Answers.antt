use Rattle.std.proofs.Common.{IfOk, sym, subst}
use Rattle.space_model.specs.Sound.{IsSound}
use Rattle.explain_core.specs.Reached.{HasSoMany}
use Rattle.explain_why.proofs.trap.events_of.Goals as goal

pub count_events-requires : goal.count_events-requires
count_events-requires c = subst IsSound (sym c.in_ok-tree.ensures.equal) c.requires

pub returns-clause-count : goal.returns-clause-count
returns-clause-count c = subst (λ s. IfOk c.count_events.result (HasSoMany s c.args.path.now.items)) c.in_ok-tree.ensures.equal c.count_events.ensures
