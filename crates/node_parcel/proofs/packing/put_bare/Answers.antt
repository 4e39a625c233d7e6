use Rattle.std.proofs.Common.{◌+◌, ◌-◌, ◌++◌, ◌∙◌, List, ℕ, ap}
use Rattle.std.specs.List.{flat_map}
use Rattle.parcel_model.specs.Parcel.{entry_spelling}
use Rattle.node_parcel.specs.Bare.{bare_entries}
use Rattle.node_parcel.proofs.InRows.{bare_more, bare_done}
use Rattle.node_parcel.proofs.packing.put_bare.Goals as goal

pub loop-page-preserved : goal.loop-page-preserved
loop-page-preserved c =
    ap (λ (t : List ℕ). t ++ flat_map entry_spelling (bare_entries c.args.permission (c.loop-page.page + 1) (c.args.end - (c.loop-page.page + 1)))) c.in_ok-put_bare_entry.ensures
    ∙ bare_more c.args.permission c.loop-page.page c.args.end c.loop-page.out.items _ c.loop-page-test.true c.loop-page.invariant

pub returns : goal.returns
returns c = bare_done c.args.permission c.loop-page.page c.args.end c.loop-page.out.items _ c.loop-page-test.false c.loop-page.invariant
