use Rattle.std.proofs.Common.{rules}
use Rattle.explain_core.proofs.Lines.{all_changes, one_change}
use Rattle.explain_core.proofs.tracing.changes_text.Goals as goal

pub loop-register-preserved : goal.loop-register-preserved
loop-register-preserved c = one_change _ _ _ _ c.loop-register.register c.args.old.now c.args.new.now (search rules) (search rules) c.loop-register.invariant c.in_ok-change.ensures (search rules)

pub returns : goal.returns
returns c = all_changes _ _ c.loop-register.register c.args.old.now c.args.new.now (search rules) c.loop-register.invariant
