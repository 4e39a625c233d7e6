use Rattle.std.proofs.Common.{rules, sym}
use Rattle.call_model.proofs.Words.{spells}
use Rattle.trap_ret.proofs.block.read_block.Goals as goal

pub returns : goal.returns
returns c = spells c.args.bytes.now _ (search rules) (sym c.word.ensures) (λ k h. sym (c.read_registers.ensures k h)) (sym c.word-2.ensures) (sym c.word-3.ensures)
