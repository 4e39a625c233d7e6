use Rattle.std.proofs.Common.{ℕ, List, subst}
use Rattle.node_parcel.specs.Numbers.{AreKept}
use Rattle.node_parcel.proofs.Kept.{kept_less}
use Rattle.node_parcel.proofs.Numbers.{numbers_pop}
use Rattle.node_parcel.proofs.residents.Residents.forget_last.Goals as goal

pub invariant_of-self : goal.invariant_of-self
invariant_of-self c =
    let kept = subst (λ (known : List (List ℕ)). AreKept c.self.inside.numbers c.self.inside.memory.memory known) c.in-Some.ensures.items c.self.invariant in
    record {
      found = numbers_pop c.self.inside.numbers c.remove.new.self c.pop.new.self.items c.in-Some.page kept.found c.remove.ensures.updates.0;
      held = kept_less c.self.inside.memory.memory c.pop.new.self.items c.in-Some.page kept.held;
    }
