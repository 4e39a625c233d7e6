use Rattle.std.proofs.Common.{ℕ, ◌+◌, ap, ◌∙◌, arith}
use Rattle.file_model.specs.Slots.{slot_start, with_bytes}
use Rattle.file_image.proofs.Overwriting.{spelled, written_at}
use Rattle.file_image.proofs.writing.write_header.Goals as goal

pub returns-clause-bytes : goal.returns-clause-bytes
returns-clause-bytes g c = λ f d.
    let a : ℕ → ℕ = g.B.FileBytes.bytes c.args.bytes.now in
    written_at a (g.B.FileBytes.bytes c.write_bytes.new.bytes) (slot_start c.args.slot + 0) (slot_start c.args.slot) c.header_row.result (omega arith) c.write_bytes.ensures.bytes
    ∙ ap (with_bytes a (slot_start c.args.slot)) (c.header_row.ensures ∙ spelled c.args.header.now f d)
