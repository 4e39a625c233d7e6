use Rattle.memory_files.proofs.PageRuns.{lent_of_slots}
use Rattle.memory_files.proofs.runs.lent_run.Goals as goal

pub returns : goal.returns
returns c = lent_of_slots c.lent.result c.args.memory.now.memory c.args.offset c.args.count c.lent.ensures
