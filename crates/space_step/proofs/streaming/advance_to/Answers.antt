use Rattle.std.proofs.Common.{sym, subst}
use Rattle.instruction_model.specs.Outcome.{view_of}
use Rattle.space_step.specs.Cache.{IsBounded}
use Rattle.space_step.specs.declared.decode_cache.Table.{Table}
use Rattle.space_step.proofs.ToSink.{sound_in_all}
use Rattle.space_step.proofs.streaming.advance_to.Goals as goal

pub go_on_to-requires-clause-agrees : goal.go_on_to-requires-clause-agrees
go_on_to-requires-clause-agrees g c = c.renew.ensures (subst (λ (t : Table). IsBounded t.first t.entries) (sym c.deref_mut-table.ensures.value) c.cache.invariant) (view_of c.args.top.now.memory)

pub returns-clause-sound : goal.returns-clause-sound
returns-clause-sound g c = sound_in_all c.go_on_to.result _ _ _ _ _ c.go_on_to.ensures.ok c.go_on_to.ensures.partly
