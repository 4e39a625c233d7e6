use Rattle.std.proofs.Common.{◌-◌, cond, ap, sym, ◌∙◌}
use Rattle.std.specs.Prelude.{nat_le}
use Rattle.file_model.specs.Sizes.{greatest_length}
use Rattle.file_image.specs.Lookup.{file_in}
use Rattle.file_image.proofs.Parts.{short_file}
use Rattle.file_image.proofs.Contents.{start_short, room_is}
use Rattle.file_image.proofs.putting.is_room.Goals as goal

pub returns : goal.returns
returns g c part long =
    let b = g.B.FileBytes.bytes c.args.bytes.now in
    let s = short_file b c.args.slot c.requires in
    ap (λ n. nat_le n (greatest_length - c.start_of-start.result)) (sym long)
    ∙ room_is (file_in b c.args.slot) part c.args.add c.start_of-start.result s (c.start_of-start.ensures ∙ ap (λ n. cond c.args.add n 0) c.length.ensures)

pub overflow_sub-result : goal.overflow_sub-result
overflow_sub-result g c =
    let b = g.B.FileBytes.bytes c.args.bytes.now in
    let s = short_file b c.args.slot c.requires in
    start_short (file_in b c.args.slot) c.args.add c.start_of-start.result s (c.start_of-start.ensures ∙ ap (λ n. cond c.args.add n 0) c.length.ensures)
