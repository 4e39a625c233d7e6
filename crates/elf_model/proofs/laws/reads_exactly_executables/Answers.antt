use Rattle.elf_model.proofs.Images.{exactly}
use Rattle.elf_model.proofs.laws.reads_exactly_executables.Goals as goal

pub returns : goal.returns
returns c = exactly
