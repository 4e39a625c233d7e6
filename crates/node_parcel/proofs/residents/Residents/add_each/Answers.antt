use Rattle.std.proofs.Common.{ℕ, List, take, sym, subst, ◌∙◌}
use Rattle.parcel_model.specs.Residents.{IsLonger}
use Rattle.parcel_model.proofs.Longer.{grown}
use Rattle.node_parcel.proofs.residents.Residents.add_each.Goals as goal

pub returns-in_err-add-clause-longer : goal.returns-in_err-add-clause-longer
returns-in_err-add-clause-longer c = subst (λ (known : List (List ℕ)). IsLonger c.args.self.now known) (sym (c.in_err-add.ensures.err ∙ c.loop-page.invariant)) (grown c.args.self.now (take c.loop-page.page-index c.args.pages.now))

pub returns-clause-longer : goal.returns-clause-longer
returns-clause-longer c = subst (λ (known : List (List ℕ)). IsLonger c.args.self.now known) (sym c.loop-page.invariant) (grown c.args.self.now (take c.loop-page.page-index c.args.pages.now))
