use Rattle.std.proofs.Common.{rules, ◌∙◌, arith, ◌+◌}
use Rattle.call_model.proofs.Words.{spells}
use Rattle.trap_ret.proofs.block.spelling.Goals as goal

pub returns-clause-spells : goal.returns-clause-spells
returns-clause-spells c =
    spells c.set_word-3.new.bytes c.args.block.now (search rules)
    (c.set_word-3.ensures.others 0 (λ e. omega arith) ∙ c.set_word-2.ensures.others 0 (λ e. omega arith) ∙ c.set_registers.ensures.others ∙ c.set_word.ensures.word)
    (λ k h. c.set_word-3.ensures.others (k + 1) (λ e. omega arith) ∙ c.set_word-2.ensures.others (k + 1) (λ e. omega arith) ∙ c.set_registers.ensures.registers k h)
    (c.set_word-3.ensures.others 32 (λ e. omega arith) ∙ c.set_word-2.ensures.word)
    c.set_word-3.ensures.word
