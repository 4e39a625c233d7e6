use Rattle.std.proofs.Common.{◌-◌, IfSome, subst}
use Rattle.std.specs.Prelude.{option_map}
use Rattle.explain_core.specs.Beside.{all}
use Rattle.explain_core.specs.Reached.{TellsMoment}
use Rattle.explain_core.specs.Watch.{noted_of}
use Rattle.explain_core.proofs.LastChange.{last_told}
use Rattle.explain_core.proofs.before.change_before.Goals as goal

pub returns-in_ok-change-in-Some-clause-tells : goal.returns-in_ok-change-in-Some-clause-tells
returns-in_ok-change-in-Some-clause-tells c =
    let tells = subst (λ o. IfSome o (λ s. TellsMoment c.args.tree c.args.below.now.items (all - s.below.left) c.args.watched s.below.kept.last)) c.in-Some.is c.in_ok-sides_before.ensures.tells in
    last_told c.args.tree c.args.below.now.items (all - c.in-Some.sides.below.left) c.args.watched c.in-Some.sides.below.kept.last (option_map noted_of c.in_ok-change-in-Some.change) tells c.in_ok-change-in-Some.ensures
