use Rattle.std.proofs.Common.{◌+◌, ◌%◌, ◌^◌, refl, ap, ◌∙◌}
use Rattle.file_model.specs.Operations.{revival}
use Rattle.file_model.proofs.Headers.{empty_written}
use Rattle.file_image.specs.Lookup.{file_in}
use Rattle.file_image.proofs.editing.revive.Goals as goal

pub returns-clause-bytes : goal.returns-clause-bytes
returns-clause-bytes g c =
    let b = g.B.FileBytes.bytes c.args.bytes.now in
    let f = revival (file_in b c.args.slot) c.args.append in
    let r = c.read_header-header.ensures in
    c.write_header.ensures.bytes f (record {
      name = r.name;
      name_length = r.name_length;
      version = c.next_version.ensures ∙ ap (λ v. (v + 1) % 2 ^ 32) r.version;
      base = r.base;
      length = refl;
      length_at_base = r.length_at_base;
      append = refl;
      conflicted = refl;
      deleted = refl;
    })
    ∙ empty_written b c.args.slot f refl
