use Rattle.std.proofs.Common.{◌≡◌, ℕ, List, Result, Ok, subst, sym, ap, ◌∙◌}
use Rattle.space_model.specs.Space.{Top}
use Rattle.parcel_model.specs.declared.error.ParcelError.{ParcelError}
use Rattle.parcel_model.specs.Parcel.{TopOf}
use Rattle.node_store.specs.Lists.{with_devices}
use Rattle.node_store.proofs.nodes.Nodes.receive.Goals as goal

pub returns-clause-only : goal.returns-clause-only
returns-clause-only c t h =
    let there = subst (λ (known : List (List ℕ)). TopOf known c.args.parcel.now t) (sym c.list.ensures) h in
    let e : t ≡ c.in_ok-top.top = cc (c.in_ok-top.ensures.only t there) in
    let made : Top → Result Top ParcelError = λ u. Ok (with_devices c.args.devices u) in
    ap made (e ∙ sym c.top.view_is)
