use Rattle.std.proofs.Common.{rules}
use Rattle.source_model.specs.declared.statement.Class.TheVariants.{LineFeed}
use Rattle.rv_asm.proofs.Cut.{first-line-only, first-line-more, after-shorter}
use Rattle.rv_asm.proofs.text.first_line.Goals as goal

pub returns-then-is_empty-clause-lines : goal.returns-then-is_empty-clause-lines
returns-then-is_empty-clause-lines c = first-line-only c.args.text.now c.cut.result.0.now c.cut.result.1.now c.requires c.cut.ensures.before c.cut.ensures.from (search rules)

pub returns-clause-lines : goal.returns-clause-lines
returns-clause-lines c = first-line-more c.args.text.now c.cut.result.0.now c.cut.result.1.now c.split_at.result.1.now c.requires c.cut.ensures.before c.cut.ensures.from c.split_at.ensures.back

pub returns-clause-shorter : goal.returns-clause-shorter
returns-clause-shorter c = after-shorter LineFeed c.args.text.now c.cut.result.1.now c.split_at.result.1.now c.requires c.cut.ensures.from c.split_at.ensures.back
