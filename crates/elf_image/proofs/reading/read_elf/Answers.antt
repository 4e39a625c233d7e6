use Rattle.std.proofs.Common.{Result, subst}
use Rattle.image_model.specs.Image as model
use Rattle.fault_model.specs.Gives.{Gives}
use Rattle.elf_model.specs.declared.error.ElfError.{ElfError}
use Rattle.elf_model.proofs.Images.{reads, refuses}
use Rattle.elf_image.proofs.Whole.{is_stated}
use Rattle.elf_image.proofs.reading.read_elf.Goals as goal

pub returns-clause-found : goal.returns-clause-found
returns-clause-found c = is_stated c.args.bytes.now c.whole.result c.whole.ensures

pub returns-clause-only : goal.returns-clause-only
returns-clause-only c = λ i h. subst (λ (r : Result model.Image ElfError). Gives (λ x. x) c.whole.result r) (reads c.args.bytes.now i h) c.whole.ensures

pub returns-clause-refused : goal.returns-clause-refused
returns-clause-refused c = λ e h. subst (λ (r : Result model.Image ElfError). Gives (λ x. x) c.whole.result r) (refuses c.args.bytes.now e h) c.whole.ensures
