use Rattle.std.proofs.Common.{◌+◌, ◌*◌, sym, ◌∙◌}
use Rattle.file_model.specs.Slots.{file_at, number_at}
use Rattle.file_model.proofs.Bytes.{length-bytes_from}
use Rattle.file_image.proofs.writing.read_header.Goals as goal

pub returns : goal.returns
unfolding file_at
returns g c =
    let b = g.B.FileBytes.bytes c.args.bytes.now in
    record {
      name = c.read_name.ensures;
      name_length = c.number.ensures ∙ sym (length-bytes_from b (65536 * c.args.slot + 28) (number_at b (65536 * c.args.slot + 24)));
      version = c.version.ensures;
      base = c.base.ensures;
      length = c.length.ensures;
      length_at_base = c.length_at_base.ensures;
      append = c.is_append.ensures;
      conflicted = c.is_conflicted.ensures;
      deleted = c.is_deleted.ensures;
    }
