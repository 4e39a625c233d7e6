use Rattle.std.proofs.Common.{ap, ◌∙◌}
use Rattle.std.specs.Int.{w32, from_le_bytes}
use Rattle.file_image.proofs.Runs.{number_of_row}
use Rattle.file_image.proofs.header.number.Goals as goal

pub returns : goal.returns
returns g c = c.from_le_bytes.ensures ∙ ap (from_le_bytes w32) c.read_bytes.ensures ∙ number_of_row (g.B.FileBytes.bytes c.args.bytes.now) c.args.at
