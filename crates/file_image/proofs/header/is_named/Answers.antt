use Rattle.std.proofs.Common.{ap, ◌∙◌}
use Rattle.file_model.specs.File.{is_name}
use Rattle.file_image.proofs.ByteRows.{name_read, long_name}
use Rattle.file_image.proofs.header.is_named.Goals as goal

pub returns-then-n-gt-GREATEST_NAME : goal.returns-then-n-gt-GREATEST_NAME
returns-then-n-gt-GREATEST_NAME g c = long_name (g.B.FileBytes.bytes c.args.bytes.now) c.args.at c.number-n.result c.number-n.ensures c.if-n-gt-GREATEST_NAME.true

pub returns : goal.returns
returns g c =
    c.is_name.ensures
    ∙ ap is_name (name_read (g.B.FileBytes.bytes c.args.bytes.now) c.args.at c.number-n.result c.read_bytes.new.out c.number-n.ensures c.if-n-gt-GREATEST_NAME.false c.read_bytes.ensures)
