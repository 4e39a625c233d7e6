use Rattle.std.proofs.Common.{Result, subst, arith}
use Rattle.image_model.specs.declared.error.ImageError.{ImageError}
use Rattle.image_model.specs.Image as model
use Rattle.image_model.proofs.Images.{image_reads}
use Rattle.fault_model.specs.Gives.{Gives}
use Rattle.image_file.proofs.Found.{is_found}
use Rattle.image_file.proofs.reading.read_image.Goals as goal

pub returns-clause-found : goal.returns-clause-found
returns-clause-found c = is_found c.args.bytes.now c.whole.result (λ i. omega (arith, c.type_inv.bytes i)) c.whole.ensures

pub returns-clause-only : goal.returns-clause-only
returns-clause-only c = λ i h. subst (λ (r : Result model.Image ImageError). Gives (λ x. x) c.whole.result r) (image_reads c.args.bytes.now i h) c.whole.ensures
