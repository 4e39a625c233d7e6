use Rattle.std.proofs.Common.{IfSome, subst}
use Rattle.std.specs.Prelude.{option_map}
use Rattle.explain_core.specs.Beside.{all}
use Rattle.explain_core.specs.Reached.{TellsMoment}
use Rattle.explain_core.specs.Watch.{noted_of}
use Rattle.explain_core.proofs.LastChange.{last_told}
use Rattle.explain_core.proofs.beside.last_changes.Goals as goal

pub returns-in_ok-parent-in-Some-clause-tells : goal.returns-in_ok-parent-in-Some-clause-tells
returns-in_ok-parent-in-Some-clause-tells c =
    let tells = subst (λ o. IfSome o (λ s. TellsMoment c.args.tree c.args.below.now.items all c.args.watched s.below.kept.last × TellsMoment c.args.tree c.args.path.now.items all c.args.watched s.above.kept.last)) c.in-Some.is c.in_ok-last_sides.ensures.tells in (
      last_told c.args.tree c.args.below.now.items all c.args.watched c.in-Some.sides.below.kept.last (option_map noted_of c.in_ok-child-in-Some.child) tells.0 c.in_ok-child-in-Some.ensures,
      last_told c.args.tree c.args.path.now.items all c.args.watched c.in-Some.sides.above.kept.last (option_map noted_of c.in_ok-parent-in-Some.parent) tells.1 c.in_ok-parent-in-Some.ensures,
    )
