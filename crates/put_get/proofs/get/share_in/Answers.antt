use Rattle.std.proofs.Common.{refl}
use Rattle.put_get.proofs.Entries.{given_same}
use Rattle.put_get.proofs.get.share_in.Goals as goal

pub returns-in-Some : goal.returns-in-Some
returns-in-Some c =
    let w = c.share.new.space in
    record { same = given_same c.args.x.now.child c.in-Some.child.now w c.args.children.now _ c.in-Some.ensures.value refl c.share.ensures.same }
