use Rattle.std.proofs.Common.{◌∙◌, ap, sym, subst, arith}
use Rattle.std.proofs.lemmas.Result.{err_from_is_err_and}
use Rattle.std.proofs.lemmas.List.{length-map}
use Rattle.image_model.specs.Image.{Image}
use Rattle.image_file.specs.View.{segment_view, segment_views}
use Rattle.elf_image.specs.View.{load_views, run_views}
use Rattle.elf_image.proofs.Whole.{is_refused, above, are_within, made, Made, are_few, are_sound, image_made}
use Rattle.elf_image.proofs.reading.whole.Goals as goal

pub returns-in_err-parts : goal.returns-in_err-parts
returns-in_err-parts c =
    let p = err_from_is_err_and c.from_residual.result c.from_residual.ensures.1 in
    rw (p.1, p.2) (is_refused c.in_err-parts.field-0.0 c.args.bytes.now c.in_err-parts.ensures.tried)

pub runs_of-requires : goal.runs_of-requires
runs_of-requires c = above c.args.bytes.now (load_views c.deref.result.now) c.in_ok-parts.ensures.tried (ap load_views c.deref.ensures.value ∙ c.in_ok-parts.ensures.parts)

pub segments_of-requires : goal.segments_of-requires
segments_of-requires c =
    let views = ap load_views c.deref.ensures.value ∙ c.in_ok-parts.ensures.parts in
    are_within (load_views c.deref.result.now) c.make_contiguous.result.now (above c.args.bytes.now (load_views c.deref.result.now) c.in_ok-parts.ensures.tried views) (ap run_views c.make_contiguous.ensures.value ∙ c.in_ok-runs.ensures)

pub new-requires-clause-count : goal.new-requires-clause-count
new-requires-clause-count c =
    let m = made c.args.bytes.now (load_views c.in_ok-parts.parts.items) (load_views c.deref.result.now) (load_views c.deref-2.result.now) (run_views c.make_contiguous.result.now) (segment_views c.in_ok-segments.segments.items) c.in_ok-parts.ensures.tried c.in_ok-parts.ensures.parts
    (ap load_views c.deref.ensures.value) (ap load_views c.deref-2.ensures.value) (ap run_views c.make_contiguous.ensures.value ∙ c.in_ok-runs.ensures) c.in_ok-segments.ensures in
    omega (arith, are_few c.args.bytes.now (segment_views c.in_ok-segments.segments.items) m, length-map c.in_ok-segments.segments.items segment_view)

pub new-requires-clause-sound : goal.new-requires-clause-sound
new-requires-clause-sound c =
    let m = made c.args.bytes.now (load_views c.in_ok-parts.parts.items) (load_views c.deref.result.now) (load_views c.deref-2.result.now) (run_views c.make_contiguous.result.now) (segment_views c.in_ok-segments.segments.items) c.in_ok-parts.ensures.tried c.in_ok-parts.ensures.parts
    (ap load_views c.deref.ensures.value) (ap load_views c.deref-2.ensures.value) (ap run_views c.make_contiguous.ensures.value ∙ c.in_ok-runs.ensures) c.in_ok-segments.ensures in
    are_sound c.args.bytes.now (segment_views c.in_ok-segments.segments.items) m

pub returns : goal.returns
returns c =
    let m = made c.args.bytes.now (load_views c.in_ok-parts.parts.items) (load_views c.deref.result.now) (load_views c.deref-2.result.now) (run_views c.make_contiguous.result.now) (segment_views c.in_ok-segments.segments.items) c.in_ok-parts.ensures.tried c.in_ok-parts.ensures.parts
    (ap load_views c.deref.ensures.value) (ap load_views c.deref-2.ensures.value) (ap run_views c.make_contiguous.ensures.value ∙ c.in_ok-runs.ensures) c.in_ok-segments.ensures in
    let e = c.new.ensures in
    image_made c.args.bytes.now c.new.result (subst (Made c.args.bytes.now) (sym (ap (λ (i : Image). i.segments) e)) m) (ap (λ (i : Image). i.entry) e ∙ c.entry_of.ensures) (ap (λ (i : Image). i.stack) e)
