use Rattle.image_model.proofs.Images.{image_takes, image_reads}
use Rattle.image_model.proofs.laws.reads_exactly_images.Goals as goal

pub returns : goal.returns
returns c = λ bytes i fits. (image_takes bytes i fits, image_reads bytes i)
