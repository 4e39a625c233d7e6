use Rattle.std.proofs.Common.{ℕ, List, subst, ap, ◌∙◌}
use Rattle.memory_model.specs.Memory.{Memory, with_permissions}
use Rattle.space_mem.specs.Held.{Held}
use Rattle.node_parcel.specs.Numbers.{HasPages}
use Rattle.node_parcel.proofs.AtOnce.{on_ok, shared}
use Rattle.node_parcel.proofs.residents.Residents.place.Goals as goal

pub returns : goal.returns
returns c =
    let source : Memory = c.self.inside.memory.memory in
    let has = subst (λ (known : List (List ℕ)). HasPages source known) c.self.view_is c.self.invariant.held in
    on_ok c.set_perm.result
    (λ e.
    ap (λ (h : Held). h.memory) e
    ∙ ap (λ (m : Memory). with_permissions m c.args.range.first c.args.range.count c.args.permission) c.in_ok-copy_from.ensures.ok
    ∙ shared c.args.self.now c.args.memory.now.memory source c.args.range.first c.args.permission c.args.number c.args.range.count has c.requires.there)
    c.set_perm.ensures.ok
