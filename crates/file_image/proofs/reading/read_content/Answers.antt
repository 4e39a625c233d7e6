use Rattle.std.proofs.Common.{◌≡◌, ℕ, ◌+◌, ◌*◌, List, length, take, drop, ap, sym, ◌∙◌, arith}
use Rattle.std.proofs.lemmas.List.{length-take-le}
use Rattle.file_model.specs.Slots.{bytes_from}
use Rattle.file_model.proofs.Bytes.{length-bytes_from}
use Rattle.file_image.specs.Lookup.{file_in}
use Rattle.file_image.proofs.Parts.{content_part, short_file, part_filled}
use Rattle.file_image.proofs.reading.read_content.Goals as goal

pub overflow_add-slot-2 : goal.overflow_add-slot-2
overflow_add-slot-2 g c =
    let s = short_file (g.B.FileBytes.bytes c.args.bytes.now) c.args.slot c.requires in
    omega (arith, s, c.length-length.ensures, c.min-from.ensures, c.requires.within)

pub read_bytes-requires : goal.read_bytes-requires
read_bytes-requires g c =
    let s = short_file (g.B.FileBytes.bytes c.args.bytes.now) c.args.slot c.requires in
    omega (arith, s, c.length-length.ensures, c.min-from.ensures, c.min-count.ensures, c.requires.within, length-take-le {A = ℕ})

pub returns-clause-out : goal.returns-clause-out
returns-clause-out g c =
    let b = g.B.FileBytes.bytes c.args.bytes.now in
    let part : List ℕ = take (length c.args.out.now) (drop c.args.offset (file_in b c.args.slot).content) in
    let t : length (take c.min-count.result c.args.out.now) ≡ c.min-count.result = omega (arith, c.min-count.ensures, length-take-le {A = ℕ}) in
    let e : part ≡ bytes_from b (65536 * c.args.slot + 4096 + c.min-from.result) c.min-count.result =
    content_part b c.args.slot c.args.offset c.min-from.result c.min-count.result (length c.args.out.now) (omega (arith, c.length-length.ensures, c.min-from.ensures)) (omega (arith, c.length-length.ensures, c.min-from.ensures, c.min-count.ensures)) in
    let n : bytes_from b (65536 * c.args.slot + 4096 + c.min-from.result) c.min-count.result ≡ c.read_bytes.new.out =
    ap (bytes_from b (65536 * c.args.slot + 4096 + c.min-from.result)) (sym t) ∙ sym c.read_bytes.ensures in
    part_filled part c.read_bytes.new.out c.args.out.now c.min-count.result (e ∙ n)
    (ap length e ∙ length-bytes_from b (65536 * c.args.slot + 4096 + c.min-from.result) c.min-count.result)
