use Rattle.image_model.specs.Image.{format_of}
use Rattle.image_model.proofs.Images.{spelling_again}
use Rattle.image_model.proofs.Formats.{has_format_of}
use Rattle.image_model.proofs.laws.read_again.Goals as goal

pub returns-clause-each : goal.returns-clause-each
returns-clause-each c = spelling_again

pub returns-clause-written : goal.returns-clause-written
returns-clause-written c = λ i h. spelling_again (format_of i) i h (has_format_of i)
