use Rattle.std.proofs.Common.{◌∙◌}
use Rattle.file_model.specs.File.{with_base}
use Rattle.file_model.proofs.Headers.{same_written}
use Rattle.file_image.specs.Lookup.{file_in}
use Rattle.file_image.proofs.Parts.{own_content, own_name}
use Rattle.file_image.proofs.basing.write_base.Goals as goal

pub returns-clause-bytes : goal.returns-clause-bytes
returns-clause-bytes g c =
    let b = g.B.FileBytes.bytes c.args.bytes.now in
    let f = with_base (file_in b c.args.slot) in
    let r = c.read_header-header.ensures in
    c.write_header.ensures.bytes f (record {
      name = r.name;
      name_length = r.name_length;
      version = r.version;
      base = r.version;
      length = r.length;
      length_at_base = r.length;
      append = r.append;
      conflicted = r.conflicted;
      deleted = r.deleted;
    })
    ∙ same_written b c.args.slot f (own_name b c.args.slot c.requires.slot) (own_content b c.args.slot)
