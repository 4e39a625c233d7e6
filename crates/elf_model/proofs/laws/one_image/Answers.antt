use Rattle.elf_model.proofs.Images.{one}
use Rattle.elf_model.proofs.laws.one_image.Goals as goal

pub returns : goal.returns
returns c = one
