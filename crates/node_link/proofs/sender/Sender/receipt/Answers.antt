use Rattle.std.proofs.Common.{ap, subst, sym}
use Rattle.link_model.specs.Ends.{Sending, IsSenderOf, offered_to}
use Rattle.link_model.specs.Link.{receipt, after}
use Rattle.link_model.proofs.Ends as ends
use Rattle.node_link.proofs.Receipts.{number_is, receipt_taken}
use Rattle.node_link.proofs.sender.Sender.receipt.Goals as goal

pub returns-then-number-self-clause-read : goal.returns-then-number-self-clause-read
returns-then-number-self-clause-read c n read =
    let number = c.in_ok-number.number in
    let same = number_is c.offered.result (offered_to c.args.self.now) c.args.frame.now n number c.in_ok-number.ensures.read c.offered.ensures read in
    receipt_taken c.args.self.now c.self.inside.base number n c.self.inside.kept.items c.drop_front.new.kept.items (ap (λ (s : Sending). s.kept) c.self.view_is) (ap (λ (s : Sending). s.base) c.self.view_is)
    c.if-number-self.true c.drop_front.ensures same

pub returns-then-number-self-clause-event : goal.returns-then-number-self-clause-event
returns-then-number-self-clause-event c w k n is read came =
    let s = c.args.self.now in
    subst (IsSenderOf (after (receipt k) w)) (sym (returns-then-number-self-clause-read c n read)) (ends.receipt_taken w s k n is (ends.receipt_within (offered_to s) n c.args.frame.now read) came)
