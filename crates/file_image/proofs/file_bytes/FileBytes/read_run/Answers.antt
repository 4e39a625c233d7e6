use Rattle.std.proofs.Common.{◌≡◌, length, arith}
use Rattle.file_image.proofs.Parts.{copied}
use Rattle.file_image.proofs.file_bytes.FileBytes.read_run.Goals as goal

pub returns : goal.returns
returns g c =
    let e : length c.loop-i.out ≡ length c.args.out.now = omega arith in
    copied (g.Self.FileBytes.bytes c.args.self.now) c.args.offset c.loop-i.out (length c.args.out.now) e (λ k h. c.loop-i.invariant k (omega arith))
