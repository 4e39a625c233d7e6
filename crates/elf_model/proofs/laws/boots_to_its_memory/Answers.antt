use Rattle.elf_model.proofs.Booted.{booted}
use Rattle.elf_model.proofs.laws.boots_to_its_memory.Goals as goal

pub returns : goal.returns
returns c = booted
