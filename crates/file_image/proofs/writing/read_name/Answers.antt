use Rattle.std.proofs.Common.{ℕ, ◌+◌, ◌*◌, ◌≤◌, ap, sym, ◌∙◌, arith}
use Rattle.std.specs.Prelude.{replicate}
use Rattle.std.proofs.lemmas.List.{length-take-le}
use Rattle.file_model.specs.Slots.{file_at, bytes_from, with_padding}
use Rattle.file_model.proofs.Lookups.{short_name}
use Rattle.file_model.proofs.SlotHeaders.{named_in_use}
use Rattle.file_image.proofs.Overwriting.{padding_read}
use Rattle.file_image.proofs.writing.read_name.Goals as goal

pub slice_bounds-name-end : goal.slice_bounds-name-end
slice_bounds-name-end g c =
    let b = g.B.FileBytes.bytes c.args.bytes.now in
    let s = short_name b (65536 * c.args.slot) (named_in_use b (65536 * c.args.slot) c.requires.used) in
    omega (arith, s, c.number-n.ensures)

pub slice_bounds-read_bytes-end : goal.slice_bounds-read_bytes-end
slice_bounds-read_bytes-end g c =
    let b = g.B.FileBytes.bytes c.args.bytes.now in
    let s = short_name b (65536 * c.args.slot) (named_in_use b (65536 * c.args.slot) c.requires.used) in
    sym (length-take-le c.number-n.result (replicate {A = ℕ} 32 0) (omega (arith, s, c.number-n.ensures)))

pub returns : goal.returns
unfolding file_at
returns g c =
    let b = g.B.FileBytes.bytes c.args.bytes.now in
    let s = short_name b (65536 * c.args.slot) (named_in_use b (65536 * c.args.slot) c.requires.used) in
    let n : c.number-n.result ≤ 32 = omega (arith, s, c.number-n.ensures) in
    padding_read b (65536 * c.args.slot + 28) c.number-n.result c.read_bytes.new.out n c.read_bytes.ensures
    ∙ ap (λ m. with_padding (bytes_from b (65536 * c.args.slot + 28) m)) c.number-n.ensures
