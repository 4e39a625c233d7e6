use Rattle.det_host.proofs.Numbered.{fails_at}
use Rattle.det_host.proofs.calls.Calls.new.Goals as goal

pub returns-clause-numbered : goal.returns-clause-numbered
returns-clause-numbered c = fails_at c.args.failing.items
