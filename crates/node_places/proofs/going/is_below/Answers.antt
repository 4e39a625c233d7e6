use Rattle.std.proofs.Common.{sym, ap, ◌∙◌, nat_eq}
use Rattle.std.specs.List.{starts_with}
use Rattle.node_places.proofs.Paths.{begins_above, above_begins}
use Rattle.node_places.proofs.going.is_below.Goals as goal

pub returns-clause-yes : goal.returns-clause-yes
returns-clause-yes c =
    let path = c.args.path.now.items in
    let other = c.args.other.now.items in
    let told = c.starts_with.ensures.value ∙ ap (λ s. starts_with nat_eq s c.as_slice-2.result.now) c.as_slice.ensures.value ∙ ap (starts_with nat_eq path) c.as_slice-2.ensures.value in
    λ yes. begins_above other path (sym told ∙ yes)

pub returns-clause-no : goal.returns-clause-no
returns-clause-no c =
    let path = c.args.path.now.items in
    let other = c.args.other.now.items in
    let told = c.starts_with.ensures.value ∙ ap (λ s. starts_with nat_eq s c.as_slice-2.result.now) c.as_slice.ensures.value ∙ ap (starts_with nat_eq path) c.as_slice-2.ensures.value in
    λ above. told ∙ above_begins other path above
