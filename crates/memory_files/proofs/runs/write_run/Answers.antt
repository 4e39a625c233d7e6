use Rattle.std.proofs.Common.{arith, length}
use Rattle.memory_files.proofs.PageRuns.{same_page}
use Rattle.memory_files.proofs.runs.write_run.Goals as goal

pub write_bytes-requires : goal.write_bytes-requires
write_bytes-requires c = omega (arith, c.requires.page)

pub returns-clause-memory : goal.returns-clause-memory
returns-clause-memory c = c.write_bytes.ensures.in_place (same_page c.args.memory.now c.args.at (length c.args.run.now) c.requires.page c.requires.owned)
