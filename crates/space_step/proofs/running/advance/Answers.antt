use Rattle.std.proofs.Common.{sym, subst}
use Rattle.instruction_model.specs.Outcome.{view_of}
use Rattle.space_model.proofs.Next.{follows_sound}
use Rattle.space_step.specs.Cache.{IsBounded}
use Rattle.space_step.specs.declared.decode_cache.Table.{Table}
use Rattle.space_step.proofs.Advancing.{first_is_local}
use Rattle.space_step.proofs.running.advance.Goals as goal

pub go_on-advance-requires-clause-agrees : goal.go_on-advance-requires-clause-agrees
go_on-advance-requires-clause-agrees c = c.renew.ensures (subst (λ (t : Table). IsBounded t.first t.entries) (sym c.deref_mut-table.ensures.value) c.cache.invariant) (view_of c.args.top.now.memory)

pub returns-clause-sound : goal.returns-clause-sound
returns-clause-sound c = λ fuel root ok. follows_sound _ _ fuel root _ _ c.go_on-advance.ensures.advances.follows ok

pub returns-then-is_none-clause-local : goal.returns-then-is_none-clause-local
returns-then-is_none-clause-local c = first_is_local _ _ _ _ _ c.go_on-advance.ensures.advances c.if-advance-eq0.true c.if-is_none.ensures
