use Rattle.file_image.proofs.Overwriting.{padding_copy}
use Rattle.file_image.proofs.editing.pad.Goals as goal

pub returns : goal.returns
returns c = padding_copy c.args.name.now c.copy_from_slice.new.self c.copy_from_slice.ensures.after
