use Rattle.std.proofs.Common.{ap, ◌∙◌}
use Rattle.instruction_model.specs.Outcome.{view_of}
use Rattle.memory_model.specs.Memory.{no_memory}
use Rattle.space_step.specs.declared.decode_cache.Table.{Table}
use Rattle.space_step.proofs.decode_cache.Table.empty.Goals as goal

pub returns-clause-bounded : goal.returns-clause-bounded
returns-clause-bounded c = (c.begin.ensures c.empty.result c.empty.ensures (ap (λ (t : Table). t.entries) (c.deref_mut.ensures.value ∙ c.in_ok-table.ensures.ok)) (view_of no_memory)).0

pub returns-clause-nothing : goal.returns-clause-nothing
returns-clause-nothing c = c.begin.ensures c.empty.result c.empty.ensures (ap (λ (t : Table). t.entries) (c.deref_mut.ensures.value ∙ c.in_ok-table.ensures.ok))
