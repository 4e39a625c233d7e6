use Rattle.std.proofs.Common.{sym, subst}
use Rattle.instruction_model.specs.Outcome.{view_of}
use Rattle.space_step.specs.Cache.{IsBounded}
use Rattle.space_step.specs.declared.decode_cache.Table.{Table}
use Rattle.explain_core.proofs.stretch.watch_as.Goals as goal

pub watch_paid-requires-clause-agrees : goal.watch_paid-requires-clause-agrees
watch_paid-requires-clause-agrees g c = c.renew.ensures (subst (λ (t : Table). IsBounded t.first t.entries) (sym c.deref_mut-table.ensures.value) c.cache.invariant) (view_of c.args.top.now.memory)
