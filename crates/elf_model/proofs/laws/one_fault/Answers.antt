use Rattle.elf_model.proofs.Images.{one_error}
use Rattle.elf_model.proofs.laws.one_fault.Goals as goal

pub returns : goal.returns
returns c = one_error
