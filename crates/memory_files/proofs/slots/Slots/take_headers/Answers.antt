use Rattle.std.proofs.Common.{◌≡◌, replicate, subst, sym}
use Rattle.space_mem.specs.Held.{Held}
use Rattle.memory_files.specs.Slots.{OwnsSlots}
use Rattle.memory_files.proofs.Owned.{few_none, no_pages, none_parts, none_within}
use Rattle.memory_files.proofs.slots.Slots.take_headers.Goals as goal

pub invariant_of-result-clause-owned : goal.invariant_of-result-clause-owned
invariant_of-result-clause-owned c = none_parts c.replace.result (replicate 64 0)

pub invariant_of-result-clause-headed : goal.invariant_of-result-clause-headed
invariant_of-result-clause-headed c =
    let e : c.replace.result ≡ c.args.memory.now = cc in
    subst (λ (h : Held). OwnsSlots h 1 c.args.slots) (sym e) c.requires

pub invariant_of-result-clause-within : goal.invariant_of-result-clause-within
invariant_of-result-clause-within c = none_within c.args.slots

pub invariant_of-result-clause-few : goal.invariant_of-result-clause-few
invariant_of-result-clause-few c = few_none (replicate 64 0) (no_pages 64)
