use Rattle.std.proofs.Common.{refl, ◌∙◌}
use Rattle.file_model.specs.Operations.{new_file}
use Rattle.file_model.proofs.Headers.{empty_written}
use Rattle.file_image.proofs.editing.write_new.Goals as goal

pub returns-clause-bytes : goal.returns-clause-bytes
returns-clause-bytes g c =
    let f = new_file c.args.name.now c.args.append in
    c.write_header.ensures.bytes f (record { name = c.pad.ensures; name_length = refl; version = refl; base = refl; length = refl; length_at_base = refl; append = refl; conflicted = refl; deleted = refl })
    ∙ empty_written (g.B.FileBytes.bytes c.args.bytes.now) c.args.slot f refl
