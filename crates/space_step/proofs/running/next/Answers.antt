use Rattle.std.proofs.Common.{sym, subst}
use Rattle.instruction_model.specs.Outcome.{view_of}
use Rattle.space_model.proofs.Next.{follows_sound}
use Rattle.space_step.specs.Cache.{IsBounded}
use Rattle.space_step.specs.declared.decode_cache.Table.{Table}
use Rattle.space_step.proofs.Advancing.{one_event_steps}
use Rattle.space_step.proofs.running.next.Goals as goal

pub go_on-advance-requires-clause-agrees : goal.go_on-advance-requires-clause-agrees
go_on-advance-requires-clause-agrees c = c.renew.ensures (subst (λ (t : Table). IsBounded t.first t.entries) (sym c.deref_mut-table.ensures.value) c.cache.invariant) (view_of c.args.top.now.memory)

pub returns-clause-steps : goal.returns-clause-steps
returns-clause-steps c = rw c.ok_or.ensures.value (one_event_steps _ _ _ _ _ c.go_on-advance.ensures.advances)

pub returns-clause-sound : goal.returns-clause-sound
returns-clause-sound c = λ fuel root ok. follows_sound _ _ fuel root _ _ c.go_on-advance.ensures.advances.follows ok
