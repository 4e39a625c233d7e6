use Rattle.std.proofs.Common.{length, ◌∙◌}
use Rattle.memory_files.proofs.PageRuns.{row_of_slots}
use Rattle.memory_files.proofs.runs.read_run.Goals as goal

pub returns : goal.returns
returns c = c.copy_run.ensures ∙ row_of_slots c.args.memory.now.memory c.args.offset (length c.args.out.now)
