use Rattle.std.proofs.Common.{◌∙◌}
use Rattle.snapshot.proofs.Conflicts.{merged_in_page}
use Rattle.snapshot.proofs.Merged.{written}
use Rattle.snapshot.proofs.overlaying.overlay_page.Goals as goal

pub returns-clause-ok : goal.returns-clause-ok
returns-clause-ok c =
    let s = c.args.snapshot.now.memory in
    let d = c.args.child.now.memory in
    let p = c.args.parent.now.memory in
    c.in_ok-write_bytes.ensures.ok
    ∙ written s d p c.args.page _ c.merge_bytes.array_long (merged_in_page s d p c.args.page _ _ _ _ c.page_bytes.ensures c.page_bytes-2.ensures c.page_bytes-3.ensures c.merge_bytes.ensures)
