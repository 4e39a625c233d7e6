use Rattle.std.proofs.Common.{ap, ◌∙◌}
use Rattle.std.specs.Str.{bytes_eq}
use Rattle.file_model.specs.Slots.{name_at}
use Rattle.file_image.proofs.ByteRows.{name_read, long_test, short_test, other_test}
use Rattle.file_image.proofs.header.has_name.Goals as goal

pub returns-then-n-gt-GREATEST_NAME : goal.returns-then-n-gt-GREATEST_NAME
returns-then-n-gt-GREATEST_NAME g c =
    let b = g.B.FileBytes.bytes c.args.bytes.now in
    long_test b c.args.at c.number-n.result (bytes_eq (name_at b c.args.at) c.args.name.now) c.number-n.ensures c.if-n-gt-GREATEST_NAME.true

pub returns-then-n-name : goal.returns-then-n-name
returns-then-n-name g c = other_test (g.B.FileBytes.bytes c.args.bytes.now) c.args.at c.number-n.result c.args.name.now c.number-n.ensures c.if-n-name.true

pub returns : goal.returns
returns g c =
    let b = g.B.FileBytes.bytes c.args.bytes.now in
    c.eq.ensures
    ∙ ap (λ xs. bytes_eq xs c.args.name.now) (name_read b c.args.at c.number-n.result c.read_bytes.new.out c.number-n.ensures c.if-n-gt-GREATEST_NAME.false c.read_bytes.ensures)
    ∙ short_test b c.args.at c.number-n.result (bytes_eq (name_at b c.args.at) c.args.name.now) c.number-n.ensures c.if-n-gt-GREATEST_NAME.false
