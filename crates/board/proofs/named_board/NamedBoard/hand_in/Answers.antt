use Rattle.board.proofs.Names.{handed_in_stands}
use Rattle.board.proofs.named_board.NamedBoard.hand_in.Goals as goal

pub invariant_of-self : goal.invariant_of-self
invariant_of-self g c =
    let b = c.self.inside in
    handed_in_stands b.starts.items b.board c.hand_in_known.new.self c.args.named.done c.hand_in_known.result c.jobs_go_on.ensures.apart c.hand_in_known.ensures.is c.self.invariant
