use Rattle.std.proofs.Common.{◌≡◌, length, ap, ◌∙◌, arith}
use Rattle.file_model.proofs.Bytes.{length-bytes_from}
use Rattle.file_image.proofs.taking.copy_piece.Goals as goal

pub write_bytes-requires-clause-within : goal.write_bytes-requires-clause-within
write_bytes-requires-clause-within g c =
    let n : length c.in-Some.run'.now ≡ c.args.count = ap length c.in-Some.ensures ∙ length-bytes_from (g.C.FileBytes.bytes c.args.child.now) c.args.from c.args.count in
    omega (arith, n, c.requires.within)
