use Rattle.elf_model.proofs.Images.{few_runs}
use Rattle.elf_model.proofs.laws.few_segments.Goals as goal

pub returns : goal.returns
returns c = few_runs
