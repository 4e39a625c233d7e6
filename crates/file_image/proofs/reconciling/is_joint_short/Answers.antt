use Rattle.std.proofs.Common.{arith}
use Rattle.file_image.proofs.Parts.{short_file}
use Rattle.file_image.proofs.reconciling.is_joint_short.Goals as goal

pub overflow_add-result : goal.overflow_add-result
overflow_add-result g c =
    let p = short_file (g.P.FileBytes.bytes c.args.parent.now) c.args.to c.requires.to in
    let d = short_file (g.C.FileBytes.bytes c.args.child.now) c.args.slot c.requires.slot in
    omega (arith, p, d, c.length.ensures, c.length_at_base.ensures, c.length-2.ensures)
