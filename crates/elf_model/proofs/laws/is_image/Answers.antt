use Rattle.elf_model.proofs.Images.{sound}
use Rattle.elf_model.proofs.laws.is_image.Goals as goal

pub returns : goal.returns
returns c = sound
