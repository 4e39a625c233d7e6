use Rattle.std.proofs.Common.{◌≡◌, ◌∙◌, ap, drop, length, refl, arith, rules}
use Rattle.std.proofs.lemmas.List.{take_at}
use Rattle.elf_model.specs.Pages.{byte_of}
use Rattle.elf_image.specs.View.{load_views}
use Rattle.elf_image.proofs.Bytes.{are_bytes}
use Rattle.elf_image.proofs.segments.content_of.Goals as goal

pub returns : goal.returns
returns c =
    let size = c.args.size in
    let byte = byte_of (load_views c.args.loads.now) in
    let content = c.overlay_all.new.content in
    let items : length c.resize.new.self.items ≡ size = search rules in
    let given : length c.deref_mut.result.now ≡ size = ap length c.deref_mut.ensures.value ∙ items in
    let len : length content ≡ size = c.overlay_all.ensures.len ∙ given in
    let kept : c.resize.new.self.len ≡ size = search rules in
    rw (take_at content (drop (length content) c.resize.new.self.items) c.resize.new.self.len (omega (arith, len, kept)))
    (are_bytes content byte c.args.start c.args.start size size refl refl len (λ k lt. c.overlay_all.ensures.bytes k (omega (arith, given))))
