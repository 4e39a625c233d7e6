use Rattle.std.proofs.Common.{◌≡◌, replicate, subst, sym}
use Rattle.space_mem.specs.Held.{Held}
use Rattle.memory_files.specs.Slots.{OwnsParts, OwnsSlots}
use Rattle.memory_files.proofs.Owned.{all_parts, few_none, headers_of, no_pages, none_spared}
use Rattle.memory_files.proofs.slots.Slots.take.Goals as goal

pub invariant_of-result-clause-owned : goal.invariant_of-result-clause-owned
invariant_of-result-clause-owned c =
    let e : c.replace.result ≡ c.args.memory.now = cc in
    subst (λ (h : Held). OwnsParts h c.args.slots (replicate 64 0)) (sym e) (all_parts c.args.memory.now c.args.slots (replicate 64 0) c.requires)

pub invariant_of-result-clause-headed : goal.invariant_of-result-clause-headed
invariant_of-result-clause-headed c =
    let e : c.replace.result ≡ c.args.memory.now = cc in
    subst (λ (h : Held). OwnsSlots h 1 c.args.slots) (sym e) (headers_of c.args.memory.now c.args.slots c.requires)

pub invariant_of-result-clause-few : goal.invariant_of-result-clause-few
invariant_of-result-clause-few c = few_none (replicate 64 0) (no_pages 64)

pub returns-clause-none : goal.returns-clause-none
returns-clause-none c k = none_spared k
