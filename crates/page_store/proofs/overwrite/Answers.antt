use Rattle.std.proofs.Common.{arith, ◌∙◌, length, ◌+◌, ◌-◌}
use Rattle.std.proofs.lemmas.Slice.{put_mid-paste}
use Rattle.std.proofs.lemmas.List.Edits.{paste_all}
use Rattle.page_store.proofs.overwrite.Goals as goal

pub returns : goal.returns
returns c =
    let at = c.args.at in
    let count = length c.args.bytes.now in
    put_mid-paste at (at + count - at) c.args.page.now _ c.args.bytes.now count c.copy_from_slice.ensures.after (omega arith) (omega arith)
    ∙ paste_all _ _ _ count (omega arith)
