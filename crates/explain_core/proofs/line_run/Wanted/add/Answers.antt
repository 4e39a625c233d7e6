use Rattle.std.proofs.Common.{refl}
use Rattle.explain_core.proofs.LastLines.{one_fresh}
use Rattle.explain_core.proofs.line_run.Wanted.add.Goals as goal

pub returns : goal.returns
returns c = λ fresh. one_fresh c.args.self.now.endings c.insert.new.self c.in_ok-path.path _ c.in_ok-insert.ensures.updates refl c.new.ensures.items fresh
