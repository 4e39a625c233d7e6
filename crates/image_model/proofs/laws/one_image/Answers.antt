use Rattle.image_model.proofs.Images.{one}
use Rattle.image_model.proofs.laws.one_image.Goals as goal

pub returns : goal.returns
returns c = λ bytes i j. one bytes i j
