use Rattle.std.proofs.Common.{sym, ◌∙◌}
use Rattle.node_link.proofs.Receiving.{answer_read, is_taken, none_left}
use Rattle.node_link.proofs.link.acknowledge.Goals as goal

pub unreachable-requires : goal.unreachable-requires
unreachable-requires c = is_taken c.receipt.result _ c.args.receiver.now (sym c.is_err.ensures.value ∙ c.if-is_err.true) c.receipt.ensures.told
    (answer_read c.args.sender.now c.args.receiver.now c.answer.result c.answer.ensures.bytes c.requires.arrived c.requires.kept c.requires.numbered)

pub returns : goal.returns
returns c = c.receipt.ensures.read c.args.receiver.now
    (answer_read c.args.sender.now c.args.receiver.now c.answer.result c.answer.ensures.bytes c.requires.arrived c.requires.kept c.requires.numbered)
    ∙ none_left c.args.sender.now c.args.receiver.now c.requires.arrived c.requires.kept
