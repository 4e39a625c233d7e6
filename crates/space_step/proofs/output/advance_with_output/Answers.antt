use Rattle.std.proofs.Common.{sym, subst}
use Rattle.std.proofs.lemmas.Result.{IfOk-weaker}
use Rattle.instruction_model.specs.Outcome.{view_of}
use Rattle.space_model.proofs.Next.{follows_sound}
use Rattle.space_step.specs.Cache.{IsBounded}
use Rattle.space_step.specs.declared.decode_cache.Table.{Table}
use Rattle.space_step.proofs.WithOutput.{output_bound}
use Rattle.space_step.proofs.output.advance_with_output.Goals as goal

pub go_on_with_output-requires-clause-agrees : goal.go_on_with_output-requires-clause-agrees
go_on_with_output-requires-clause-agrees c = c.renew.ensures (subst (λ (t : Table). IsBounded t.first t.entries) (sym c.deref_mut-table.ensures.value) c.cache.invariant) (view_of c.args.top.now.memory)

pub returns-clause-bound : goal.returns-clause-bound
returns-clause-bound c = IfOk-weaker c.go_on_with_output.result _ _ (λ a h. output_bound _ _ _ _ _ _ _ h.goes c.requires.few) c.go_on_with_output.ensures.advances

pub returns-clause-sound : goal.returns-clause-sound
returns-clause-sound c = IfOk-weaker c.go_on_with_output.result _ _ (λ a h. λ fuel root ok. follows_sound _ _ fuel root _ _ h.goes.follows ok) c.go_on_with_output.ensures.advances
