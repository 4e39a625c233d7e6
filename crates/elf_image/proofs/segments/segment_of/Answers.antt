use Rattle.std.proofs.Common.{◌≡◌, ◌∙◌, ℕ, ◌*◌, ◌-◌, List, map, ap, refl, arith, rules}
use Rattle.std.specs.List.{range_with_len}
use Rattle.memory_model.specs.Sizes.{page_size}
use Rattle.image_file.specs.View.{padded}
use Rattle.elf_model.specs.Pages.{byte_of}
use Rattle.elf_image.specs.View.{load_views}
use Rattle.elf_image.proofs.Bytes.{filled_up}
use Rattle.elf_image.proofs.segments.segment_of.Goals as goal

pub returns : goal.returns
returns c =
    let run = c.args.run in
    let byte = byte_of (load_views c.args.loads.now) in
    let start = c.from.result * c.from-2.result in
    let whole = c.from-3.result * c.from-4.result - start in
    let size = c.filled-size.result in
    let filled = c.filled-size.ensures in
    let first : c.from.result ≡ run.first = search rules in
    let page : c.from-2.result ≡ page_size = search rules in
    let end : c.from-3.result ≡ run.end = search rules in
    let page_too : c.from-4.result ≡ page_size = search rules in
    let is_start : start ≡ page_size * run.first = rw (first, page) (omega arith) in
    let is_whole : whole ≡ page_size * (run.end - run.first) = rw (first, page, end, page_too) (omega arith) in
    let address : run.first * 4096 ≡ page_size * run.first = omega arith in
    let content : padded c.in_ok-content_of.field-0.items (whole - size) ≡ map byte (range_with_len (page_size * run.first) (page_size * (run.end - run.first))) =
    ap (λ (l : List ℕ). padded l (whole - size)) c.in_ok-content_of.ensures
    ∙ filled_up byte start size whole (whole - size) filled.most refl filled.zeros
    ∙ ap (λ n. map byte (range_with_len n whole)) is_start ∙ ap (λ n. map byte (range_with_len (page_size * run.first) n)) is_whole in
    λ i. record { address = address i; permission = run.permission; content = content i }
